use Rattle.name_search.specs.Walks.{StaysFor}
use Rattle.name_search.proofs.postings.Postings.forget.Given as goal

-- what the rows need is still noted
abbrev pub invariant-loop-word : goal.invariant-loop-word
invariant-loop-word l = StaysFor l.rows l.fn.self l.self
