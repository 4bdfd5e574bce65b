-- The keys of a register's cells.
use Rattle.std.specs.Prelude.{◌≡◌, ◌≤◌, ℕ, Some}
use Rattle.std.specs.FinMap.{get}
use Rattle.lei_records.specs.Tables.{KeyTexts}
use Rattle.lei_records.specs.declared.view.RowKey.{RowKey}
use Rattle.register_table.specs.Held.{Cell, Held, cell_key}
use Rattle.register_history.specs.Kept.{IsKey}

-- A cell is under the key of a row, and was touched by one of the entries up to this one.
pub record IsRowCell (last : ℕ) (key : KeyTexts) (cell : Cell) : Type 0 where
  pub row_key : RowKey
  pub is_key : IsKey row_key
  pub under : key ≡ cell_key row_key
  pub some : 1 ≤ cell.entry
  pub most : cell.entry ≤ last

-- This holds for each cell that is held.
abbrev pub AreRowCells : ℕ → Held → Type 0
AreRowCells last held = (key : KeyTexts) (cell : Cell) → get held key ≡ Some cell → IsRowCell last key cell
