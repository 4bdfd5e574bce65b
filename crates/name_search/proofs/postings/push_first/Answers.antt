use Rattle.std.proofs.Common.{◌≡◌, Some, ap, rules, subst, sym, ◌∙◌}
use Rattle.name_search.specs.Keys.{get_by_word}
use Rattle.name_search.specs.Keys.{is_one_of_keys}
use Rattle.name_search.specs.Walks.{FirstStays, rising_in}
use Rattle.name_search.proofs.NotedLemmas.{stays_updated}
use Rattle.name_search.proofs.postings.push_first.Goals as goal

pub returns-in-Some-clause-stays : goal.returns-in-Some-clause-stays
returns-in-Some-clause-stays c =
    let was : get_by_word c.args.first.now c.args.word.now ≡ Some c.in-Some.keys.now = search rules in
    let after = c.get_mut.follows.lender c.push.new.self in
    stays_updated rising_in c.args.first.now after c.args.word.now (Some c.push.new.self) ((c.get_mut.follows.holds c.push.new.self).3 (search rules))
    (λ k had. c.push.ensures.stay k (sym (ap (λ o. is_one_of_keys k (rising_in o)) was) ∙ had))

pub returns-in_ok-push_alone-in-None-clause-stays : goal.returns-in_ok-push_alone-in-None-clause-stays
returns-in_ok-push_alone-in-None-clause-stays c =
    subst (λ m. FirstStays m c.push_alone.new.first) c.get_mut.follows.holds-at-none c.push_alone.ensures.stays

pub returns-in_err-push_alone-in-None-clause-stays : goal.returns-in_err-push_alone-in-None-clause-stays
returns-in_err-push_alone-in-None-clause-stays c =
    subst (λ m. FirstStays m c.push_alone.new.first) c.get_mut.follows.holds-at-none c.push_alone.ensures.stays
