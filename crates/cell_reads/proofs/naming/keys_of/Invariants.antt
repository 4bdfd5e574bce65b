use Rattle.std.proofs.Common.{◌≡◌, flat_map, take}
use Rattle.cell_reads.specs.Needs.{named_cells}
use Rattle.cell_reads.proofs.naming.keys_of.Given as goal

abbrev pub invariant-loop-item : goal.invariant-loop-item
invariant-loop-item l = l.keys.items ≡ flat_map named_cells (take l.item-index l.items)
