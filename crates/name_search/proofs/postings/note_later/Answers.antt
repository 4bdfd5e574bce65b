use Rattle.std.proofs.Common.{◌≡◌, Some, ap, rules, subst, sym, ◌∙◌}
use Rattle.name_search.specs.Keys.{get_by_word}
use Rattle.name_search.specs.Keys.{is_one_of_keys}
use Rattle.name_search.specs.Walks.{LaterStays, keys_in}
use Rattle.name_search.proofs.NotedLemmas.{stays_updated}
use Rattle.name_search.proofs.postings.note_later.Goals as goal

pub returns-in-Some-clause-stays : goal.returns-in-Some-clause-stays
returns-in-Some-clause-stays c =
    let was : get_by_word c.args.later.now c.args.word.now ≡ Some c.in-Some.keys.now = search rules in
    let after = c.get_mut.follows.lender c.note_key.new.keys in
    stays_updated keys_in c.args.later.now after c.args.word.now (Some c.note_key.new.keys) ((c.get_mut.follows.holds c.note_key.new.keys).3 (search rules))
    (λ k had. c.note_key.ensures.stay k (sym (ap (λ o. is_one_of_keys k (keys_in o)) was) ∙ had))

pub returns-in-None-clause-stays : goal.returns-in-None-clause-stays
returns-in-None-clause-stays c = subst (λ m. LaterStays m c.note_alone.new.later) c.get_mut.follows.holds-at-none c.note_alone.ensures.stays
