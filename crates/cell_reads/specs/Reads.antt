-- Cells that were read, and which views agree with them. This project's profile.
use Rattle.std.specs.Prelude.{◌≡◌, List}
use Rattle.std.specs.List.{Contains}
use Rattle.lei_records.specs.declared.view.CellKey.{CellKey}
use Rattle.lei_records.specs.declared.view.CellSeen.{CellSeen}
use Rattle.lei_records.specs.Cells.{Cells}
use Rattle.lei_records.specs.Tables.{Table, cells_of, seen, seen_fact}

-- Cells that were read: the key of each, with what the cell had.
abbrev pub Listed : Type 0
Listed = List (CellKey × CellSeen)

-- The cell with this key has this value. It is `None` for an empty cell, and `false` if the empty cell is that of an
-- exception. A cell that the view lacks has no value.
abbrev pub HasCell : Cells → CellKey → CellSeen → Type 0
HasCell cells (CellKey.Rec lei) (CellSeen.Rec found) = cells.record_cell lei ≡ seen found
HasCell cells (CellKey.Rel start kind end) (CellSeen.Rel found) = cells.relation start kind end ≡ seen found
HasCell cells (CellKey.Exc lei category) (CellSeen.Exc stands) =
    cells.exception lei category ≡ seen_fact stands
HasCell cells (CellKey.Key authority id) (CellSeen.Key found) = cells.holder authority id ≡ seen found
HasCell cells (CellKey.Act start kind) (CellSeen.Act found) = cells.active start kind ≡ seen found
HasCell cells key found = ⊥

-- Each listed cell has the value that is listed for it.
abbrev pub AnswersReads : Listed → Cells → Type 0
AnswersReads reads cells = (key : CellKey) (found : CellSeen) → Contains reads (key, found)
    → HasCell cells key found

-- A table agrees with reads: it has in each listed cell, empty ones included, what is listed.
abbrev pub Agrees : Listed → Table → Type 0
Agrees reads table = AnswersReads reads (cells_of table)
