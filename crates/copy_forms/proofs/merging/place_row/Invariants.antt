use Rattle.copy_forms.proofs.Passing.{StandsAt}
use Rattle.copy_forms.proofs.merging.place_row.Given as goal

-- the changes before the next one have lesser keys
abbrev pub invariant-loop-index : goal.invariant-loop-index
invariant-loop-index g l = StandsAt g.C.HeldChange.change l.changes l.row l.at l.index
