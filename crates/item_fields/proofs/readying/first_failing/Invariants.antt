use Rattle.std.proofs.Common.{◌≡◌, drop}
use Rattle.item_fields.proofs.SheetLemmas.{first_in}
use Rattle.item_fields.proofs.readying.first_failing.Given as goal

-- the first field of the rest that fails is the first of all
abbrev pub invariant-loop-index : goal.invariant-loop-index
invariant-loop-index l = first_in l.check l.facts (drop l.index l.table) (drop l.index l.texts) ≡ first_in l.check l.facts l.table l.texts
