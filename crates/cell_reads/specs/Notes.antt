-- What noting cells adds to the list of those that were read.
use Rattle.std.specs.Prelude.{◌⊎◌, List, IsTrue}
use Rattle.std.specs.List.{Contains}
use Rattle.lei_records.specs.declared.view.CellKey.{CellKey}
use Rattle.lei_records.specs.declared.view.CellSeen.{CellSeen}
use Rattle.lei_records.specs.Cells.{Cells}
use Rattle.relation_rules.specs.Needs.{lacks}
use Rattle.cell_reads.specs.Reads.{AnswersReads, Listed}

-- The cell with this key is listed, with whatever it had.
abbrev pub IsListedKey : Listed → CellKey → Type 0
IsListedKey reads key = (found : CellSeen) × Contains reads (key, found)

-- The cell with this key is listed, or the view lacks it.
abbrev pub IsCovered : Listed → Cells → CellKey → Type 0
IsCovered reads cells key = IsTrue (lacks cells key) ⊎ IsListedKey reads key

-- The cells with these keys were noted with what a view has in them. What was listed still is. If the view has what was
-- listed before, it has what is listed now. Each cell with one of the keys is listed, unless the view lacks it.
pub record NotesCells (cells : Cells) (old new : Listed) (keys : List CellKey) : Type 0 where
  pub grows : (key : CellKey) (found : CellSeen) → Contains old (key, found) → Contains new (key, found)
  pub answers : AnswersReads old cells → AnswersReads new cells
  pub covers : (key : CellKey) → Contains keys key → IsCovered new cells key
