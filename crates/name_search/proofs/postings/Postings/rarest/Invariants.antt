use Rattle.std.proofs.Common.{◌<◌, length}
use Rattle.name_search.proofs.postings.Postings.rarest.Given as goal

-- it is the index of a word
abbrev pub invariant-loop-index : goal.invariant-loop-index
invariant-loop-index l = l.rarest < length l.wanted
