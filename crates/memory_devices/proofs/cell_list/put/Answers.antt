use Rattle.std.proofs.Common.{ap, ◌∙◌}
use Rattle.std.specs.FinMap.{insert}
use Rattle.memory_devices.specs.CellLists.{cells_by_place}
use Rattle.lei_values.specs.KeptTables.{cell_content}
use Rattle.memory_devices.proofs.CellLemmas.{cells_by_place-insert}
use Rattle.memory_devices.proofs.cell_list.put.Goals as goal
use Rattle.memory_devices.proofs.cell_list.put.Goals.{in-Ok, in-Err}

pub returns : goal.returns
returns c = elim c.match-insert.branch [
  | in-Ok w ↦ rw w.result-is (cells_by_place-insert c.args.places.now.entries c.insert.new.self.entries c.in_ok-place_of.field-0 c.args.cell w.in-Ok.ensures.entries
      ∙ ap (λ place. insert (cells_by_place c.args.places.now.entries) place (cell_content c.args.cell.now)) c.in_ok-place_of.ensures)
  | in-Err w ↦ rw w.result-is tt
]
