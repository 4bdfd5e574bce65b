-- Held: what a table holds, cell by cell, and the rows of its cells.
use Rattle.std.specs.Prelude.{ℕ, ◌≤◌, List, [], ◌∷◌, Option, Some, None, option_and_then, if◌then◌else◌, refl}
use Rattle.std.specs.Coded.{Coded, code_by, coded_list, coded_option, coded_ℕ, coded×}
use Rattle.std.specs.FinMap.{FinMap, code, empty, entries, insert, remove}
use Rattle.std.specs.Str.{bytes_eq}
use Rattle.lei_code.specs.Texts.{Text}
use Rattle.lei_records.specs.declared.view.RowKey.{RowKey}
use Rattle.lei_records.specs.Rows.{Row}
use Rattle.lei_records.specs.Tables.{KeyTexts, Rows, Table, key_cmp, exception_key, record_key, record_count, relation_key, IsSoundTable}

-- ---- cells

-- A cell: the number of the entry that touched its key last, and the row that is held under the key. After a withdrawal
-- there is no row.
pub record Cell : Type 0 where
  pub entry : ℕ
  pub row : Option Row

-- Cells under their keys, in the order of the keys. Each key that was ever touched has one.
abbrev pub Held : Type 0
Held = FinMap key_cmp Cell

-- The kinds of cells, as texts of one byte: records are of kind 1.
abbrev pub record_kind : Text
record_kind = 1 ∷ []

-- Relationships are of kind 2.
abbrev pub relation_kind : Text
relation_kind = 2 ∷ []

-- Exceptions are of kind 3.
abbrev pub exception_kind : Text
exception_kind = 3 ∷ []

-- The key of a cell: its kind, followed by the texts of the row's key.
abbrev pub cell_key : RowKey → KeyTexts
cell_key (RowKey.Rec lei) = record_kind ∷ record_key lei
cell_key (RowKey.Rel start kind end) = relation_kind ∷ relation_key start kind end
cell_key (RowKey.Exc lei category) = exception_kind ∷ exception_key lei category

-- ---- the rows of cells

-- The row of a cell, if there is a cell and it has one.
abbrev pub row_in : Option Cell → Option Row
row_in = option_and_then (λ cell. cell.row)

-- Rows with this one under the key, or with none.
abbrev pub with_under : Rows → KeyTexts → Option Row → Rows
with_under rows key (Some row) = insert rows key row
with_under rows key None = remove rows key

-- Rows with that of a cell, if the cell is of this kind. The row is put under the texts that follow the kind.
abbrev pub with_cell_of : Text → Rows → KeyTexts → Option Row → Rows
with_cell_of kind rows [] row = rows
with_cell_of kind rows (first ∷ key) row = if bytes_eq first kind then with_under rows key row else rows

-- The rows of the cells of a kind.
abbrev pub rows_of : Text → List (KeyTexts × Cell) → Rows
rows_of kind [] = empty
rows_of kind (cell ∷ cells) = with_cell_of kind (rows_of kind cells) cell.0 cell.1.row

-- The table of the cells: the rows that are held.
unfoldable pub rows : Held → Table
rows held = record {
  records = rows_of record_kind (entries held);
  relations = rows_of relation_kind (entries held);
  exceptions = rows_of exception_kind (entries held);
}

-- ---- tables that can be kept

-- The table without rows.
abbrev pub no_rows : Table
no_rows = record { records = empty; relations = empty; exceptions = empty }

-- A table that can be kept: it is sound, and has at most 4,294,967,295 records.
pub record CanBeKept (table : Table) : Type 0 where
  pub sound : IsSoundTable table
  pub count : record_count table ≤ 4294967295

-- ---- what contracts see of a table

-- The cells that are held, and those before the last writes, if these can be undone.
pub record TableState : Type 0 where
  pub held : Held
  pub before : Option Held

-- ---- how this is stored

-- a row is stored as the list of its texts, and a cell as the pair of its parts
abbrev cell_code : Coded Cell
cell_code = code_by (ℕ × Option Row) (coded× coded_ℕ (coded_option (coded_list (coded_list coded_ℕ))))
    (λ cell. (cell.entry, cell.row)) (λ parts. record { entry = parts.0; row = parts.1 }) (λ _. refl)

-- How cells are stored: as a list under their keys.
abbrev pub held_code : Coded Held
held_code = code (coded_list (coded_list coded_ℕ)) cell_code

-- How the state of a table is stored: as the pair of its parts.
abbrev pub state_code : Coded TableState
state_code = code_by (Held × Option Held) (coded× held_code (coded_option held_code))
    (λ state. (state.held, state.before)) (λ parts. record { held = parts.0; before = parts.1 }) (λ _. refl)
