use Rattle.std.proofs.Common.{◌≡◌, drop}
use Rattle.name_search.specs.Searching as spec
use Rattle.name_search.proofs.named_row.is_among.Given as goal

-- the word is among all of them if and only if it is among the rest
abbrev pub invariant-loop-other : goal.invariant-loop-other
invariant-loop-other l = spec.is_word_among (drop l.other-index l.words) l.word ≡ spec.is_word_among l.words l.word
