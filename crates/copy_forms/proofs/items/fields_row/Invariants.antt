use Rattle.std.proofs.Common.{◌≡◌, take}
use Rattle.copy_forms.proofs.items.fields_row.Given as goal

abbrev pub invariant-loop-index : goal.invariant-loop-index
invariant-loop-index l = l.texts ≡ take l.index l.fields
