use Rattle.std.proofs.Common.{◌≡◌, take}
use Rattle.memory_devices.proofs.keeper.copies.Given as goal

abbrev pub invariant-loop-cell : goal.invariant-loop-cell
invariant-loop-cell l = l.list.items ≡ take l.cell-index l.cells
