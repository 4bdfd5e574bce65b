use Rattle.name_search.specs.Walks.{StaysFor}
use Rattle.name_search.proofs.postings.Postings.forget_all.Given as goal

-- what the rows need is still noted
abbrev pub invariant-loop-row : goal.invariant-loop-row
invariant-loop-row l = StaysFor l.rows l.fn.self l.self
