use Rattle.std.proofs.Common.{Some, ap, ◌∙◌}
use Rattle.name_search.specs.Keys.{get_by_word}
use Rattle.name_search.specs.Walks.{keys_in}
use Rattle.name_search.proofs.NotedLemmas.{no_key, stays_updated}
use Rattle.name_search.proofs.postings.note_alone.Goals as goal

pub returns-clause-stays : goal.returns-clause-stays
returns-clause-stays c =
    stays_updated keys_in c.args.later.now c.insert.new.self c.in_ok-word.word (Some c.note_key.new.keys) c.in_ok-insert.ensures.updates
    (λ k had. no_key k (keys_in (get_by_word c.args.later.now c.in_ok-word.word))
    (ap keys_in (ap (get_by_word c.args.later.now) c.in_ok-word.ensures ∙ c.requires)) had)
