use Rattle.std.proofs.Common.{◌↔◌, drop}
use Rattle.memory_devices.specs.Memory.{AreOfEntries}
use Rattle.memory_devices.proofs.keeper.are_of_entries.Given as goal

abbrev pub invariant-loop-cell : goal.invariant-loop-cell
invariant-loop-cell l = AreOfEntries (drop l.cell-index l.cells) ↔ AreOfEntries l.cells
