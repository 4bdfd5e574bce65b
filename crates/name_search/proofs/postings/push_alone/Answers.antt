use Rattle.std.proofs.Common.{Some, ap, ◌∙◌}
use Rattle.name_search.specs.Keys.{get_by_word}
use Rattle.name_search.specs.Walks.{rising_in}
use Rattle.name_search.proofs.NotedLemmas.{no_key, stays_updated}
use Rattle.name_search.proofs.postings.push_alone.Goals as goal

pub returns-clause-stays : goal.returns-clause-stays
returns-clause-stays c =
    stays_updated rising_in c.args.first.now c.insert.new.self c.in_ok-word.word (Some c.in_ok-keys.keys) c.in_ok-insert.ensures.updates
    (λ k had. no_key k (rising_in (get_by_word c.args.first.now c.in_ok-word.word))
    (ap rising_in (ap (get_by_word c.args.first.now) c.in_ok-word.ensures ∙ c.requires)) had)
