use Rattle.std.proofs.Common.{◌≡◌, drop}
use Rattle.name_search.specs.Searching as spec
use Rattle.name_search.proofs.named_row.has_each.Given as goal

-- all wanted words are there if and only if the rest of them are
abbrev pub invariant-loop-word : goal.invariant-loop-word
invariant-loop-word l = spec.has_each (drop l.word-index l.wanted) l.words ≡ spec.has_each l.wanted l.words
