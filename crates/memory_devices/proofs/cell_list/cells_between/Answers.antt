use Rattle.std.specs.FinMap.{empty}
use Rattle.lei_values.specs.KeptTables.{put_cells}
use Rattle.memory_devices.proofs.CellLemmas.{all_between}
use Rattle.memory_devices.proofs.cell_list.cells_between.Goals as goal

pub returns : goal.returns
returns c = all_between c.args.after c.args.upto c.in_ok-places.places.entries (put_cells empty c.args.cells.now) c.list_between.result c.list_between.ensures.ordered c.in_ok-places.ensures c.list_between.ensures.told
