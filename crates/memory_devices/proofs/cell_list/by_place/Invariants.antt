use Rattle.std.proofs.Common.{◌≡◌, take}
use Rattle.std.specs.FinMap.{empty}
use Rattle.memory_devices.specs.CellLists.{cells_by_place}
use Rattle.lei_values.specs.KeptTables.{put_cells}
use Rattle.memory_devices.proofs.cell_list.by_place.Given as goal

abbrev pub invariant-loop-cell : goal.invariant-loop-cell
invariant-loop-cell l = cells_by_place l.places.entries ≡ put_cells empty (take l.cell-index l.cells)
