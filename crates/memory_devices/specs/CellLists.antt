-- Cells by the bytes of their places, as a map in memory holds them.
use Rattle.std.specs.Prelude.{ℕ, List, ◌&&◌, map, filter, nat_le, nat_lt}
use Rattle.std.specs.Borrow.{Bor}
use Rattle.std.specs.FinMap.{from_entries}
use Rattle.lei_values.specs.KeptTables.{CellContent, CellPlace, CellsByPlace, cell_at, cell_content}
use Rattle.lei_values.specs.declared.cell.KeptCell.{KeptCell}

-- What is kept of a cell, with its place.
abbrev pub content_at : CellPlace × Bor KeptCell → CellPlace × CellContent
content_at (place, cell) = (place, cell_content cell.now)

-- The cells in their places.
unfoldable pub cells_by_place : List (CellPlace × Bor KeptCell) → CellsByPlace
cells_by_place list = from_entries (map content_at list)

-- The cells that were last touched by an entry with such a number, in the order of the list.
abbrev pub between_of : ℕ → ℕ → List (CellPlace × CellContent) → List KeptCell
between_of after upto list = filter (λ cell. nat_lt after cell.touched && nat_le cell.touched upto)
    (map cell_at list)
