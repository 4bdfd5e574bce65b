-- Kept tables: what a keeper has of an office, its entries and the cells of the register.
use Rattle.std.specs.Prelude.{◌≡◌, ℕ, List, [], ◌∷◌, ◌++◌, Option, Some, option_map, IfSome, IsSome}
use Rattle.std.specs.FinMap.{get}
use Rattle.lei_code.specs.Code.{IsValid}
use Rattle.lei_code.specs.Texts.{Text}
use Rattle.lei_values.specs.KeptTables.{CellContent, CellPlace, CellsByPlace, KeptTables}
use Rattle.lei_values.specs.declared.cell.KeptCell.{KeptCell}
use Rattle.lei_records.specs.declared.view.RowKey.{RowKey}
use Rattle.lei_records.specs.Tables.{KeyTexts, exception_key, record_key, relation_key}
use Rattle.register_words.specs.declared.sheets.Sheet.{Sheet}
use Rattle.copy_forms.specs.Items.{item_text}
use Rattle.copy_forms.specs.Json.{json_record}
use Rattle.copy_csv.specs.Sheets.{row_of_texts}
use Rattle.register_table.specs.declared.touched.Touched.{Touched}
use Rattle.register_table.specs.Held.{Cell, Held, cell_key}
use Rattle.upload_ledger.specs.History.{History}
use Rattle.register_history.specs.Register.{held_after}
use Rattle.register_history.specs.State.{OfficeState}

-- ---- the place of a cell

-- texts separated by single spaces
abbrev pub with_spaces : List Text → Text
with_spaces [] = []
with_spaces (text ∷ []) = text
with_spaces (text ∷ next ∷ texts) = text ++ 32 ∷ with_spaces (next ∷ texts)

-- The place of a key: the byte of its kind, followed by the name. The byte of its kind is its first text, and the name
-- is its other texts separated by single spaces.
abbrev pub place_in : KeyTexts → CellPlace
place_in [] = []
place_in (kind ∷ texts) = kind ++ with_spaces texts

-- each LEI of a key is one
abbrev pub IsKey : RowKey → Type 0
IsKey (RowKey.Rec lei) = IsValid lei
IsKey (RowKey.Rel start kind end) = IsValid start × IsValid end
IsKey (RowKey.Exc lei category) = IsValid lei

-- the number of a key's kind: 1 for a record, 2 for a relationship, 3 for an exception
abbrev pub key_kind : RowKey → ℕ
key_kind (RowKey.Rec lei) = 1
key_kind (RowKey.Rel start kind end) = 2
key_kind (RowKey.Exc lei category) = 3

-- its name: the texts of the row's key separated by single spaces
abbrev pub key_name : RowKey → Text
key_name (RowKey.Rec lei) = with_spaces (record_key lei)
key_name (RowKey.Rel start kind end) = with_spaces (relation_key start kind end)
key_name (RowKey.Exc lei category) = with_spaces (exception_key lei category)

-- ---- what is kept of it

-- the sheet with the rows of a key
abbrev pub sheet_of_key : RowKey → Sheet
sheet_of_key (RowKey.Rec lei) = Sheet.Lei
sheet_of_key (RowKey.Rel start kind end) = Sheet.Rr
sheet_of_key (RowKey.Exc lei category) = Sheet.Repex

-- the number of the entry that touched it last, and its row as a JSON object of the present fields, or no row
abbrev pub content : RowKey → Cell → CellContent
content key cell = record {
  touched = cell.entry;
  row = option_map (λ row. json_record (row_of_texts (sheet_of_key key) row)) cell.row;
}

-- ---- the tables

-- The kept cells are those of the register. The place of each key has what the register has under the key, and no other
-- place has anything.
pub record AreCellsOf (held : Held) (cells : CellsByPlace) : Type 0 where
  pub each : (key : RowKey) → IsKey key
      → get cells (place_in (cell_key key)) ≡ option_map (content key) (get held (cell_key key))
  pub only : (place : CellPlace) (kept : CellContent) → get cells place ≡ Some kept
      → (key : RowKey) × IsKey key × (place ≡ place_in (cell_key key))

-- The tables are those of these entries and cells.
pub record AreTablesWith (history : History) (held : Held) (tables : KeptTables) : Type 0 where
  pub entries : tables.entries ≡ history
  pub cells : AreCellsOf held tables.cells

-- The tables of an office: the entries of its history in order, and the cells of its register.
abbrev pub AreTablesOf : OfficeState → KeptTables → Type 0
AreTablesOf office tables = AreTablesWith office.history (held_after office.limits office.history) tables

-- If a keeper tells its tables, they are those of the office.
abbrev pub Keeps : Option KeptTables → OfficeState → Type 0
Keeps told office = IfSome told (AreTablesOf office)

-- If a keeper tells its tables now, it told them before: what was untold stays untold.
abbrev pub StaysUntold : Option KeptTables → Option KeptTables → Type 0
StaysUntold before now = IsSome now → IsSome before

-- No two different pairs of tables are those of one office.
abbrev pub TablesAreOne : OfficeState → Type 0
TablesAreOne office = (one other : KeptTables) → AreTablesOf office one
    → AreTablesOf office other → one ≡ other

-- ---- cells that are committed

-- a touched key, as the cell that is kept for it
abbrev pub kept_cell : Touched → KeptCell
kept_cell told = record {
  kind = key_kind told.key;
  name = key_name told.key;
  touched = told.entry;
  row = option_map item_text told.item;
}
