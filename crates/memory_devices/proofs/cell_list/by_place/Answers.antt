use Rattle.memory_devices.proofs.CellLemmas.{cells_by_place-none}
use Rattle.memory_devices.proofs.cell_list.by_place.Goals as goal

pub loop-cell-init : goal.loop-cell-init
loop-cell-init c = cells_by_place-none c.new-places.result.entries c.new-places.ensures.empty
