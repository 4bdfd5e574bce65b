-- The sheets of golden copies, and the rows in them.
use Rattle.std.specs.Prelude.{◌≡◌, ℕ, List, map, take, drop, length, Bool, true, false, if◌then◌else◌, IsTrue, codes}
use Rattle.std.specs.List.{list_all}
use Rattle.std.specs.Str.{bytes_eq, is_utf8}
use Rattle.lei_code.specs.Texts.{Text}
use Rattle.item_fields.specs.declared.fields.Kind.{Kind}
use Rattle.item_fields.specs.Fields.{row_fields}
use Rattle.lei_records.specs.Spelled.{is_absent}
use Rattle.lei_records.specs.Tables.{KeyTexts}
use Rattle.register_words.specs.declared.sheets.Sheet.{Sheet}

-- The kind of the items whose rows are in a sheet: records in `lei`, relationships in `rr`, exceptions in `repex`.
abbrev pub kind_of : Sheet → Kind
kind_of Sheet.Lei = Kind.Record
kind_of Sheet.Rr = Kind.Relation
kind_of Sheet.Repex = Kind.Exception

-- The number of texts in a row.
abbrev pub width : Sheet → ℕ
width Sheet.Lei = 32
width Sheet.Rr = 11
width Sheet.Repex = 4

-- Whether files in CSV of this sheet come in two widths.
abbrev pub has_widths : Sheet → Bool
has_widths Sheet.Lei = true
has_widths Sheet.Rr = false
has_widths Sheet.Repex = false

-- The number of columns in a CSV file: one for each of a row's texts, counted from the first. A wide file of `lei` has
-- one for every field. A narrow one has none for the fields of an event, which are the last four. The other sheets have
-- one width.
abbrev pub column_count : Bool → Sheet → ℕ
column_count wide Sheet.Lei = if wide then 32 else 28
column_count wide Sheet.Rr = 11
column_count wide Sheet.Repex = 4

-- How many of a row's texts, counted from the first, are its key.
abbrev pub key_len : Sheet → ℕ
key_len Sheet.Lei = 1
key_len Sheet.Rr = 3
key_len Sheet.Repex = 2

-- The names of a sheet's fields in order of place. An exception's action is in no row.
abbrev pub column_names : Sheet → List Text
column_names sheet = map (λ field. field.0) (row_fields (kind_of sheet))

-- The names in the first line of a file of this width, without that of a delta's action.
abbrev pub names_shown : Bool → Sheet → List Text
names_shown wide sheet = take (column_count wide sheet) (column_names sheet)

-- A row of a sheet: its texts in order of place. A text is empty if its field is absent.
pub record SheetRow : Type 0 where
  pub sheet : Sheet
  pub texts : List Text

-- The row with these texts.
abbrev pub row_of_texts : Sheet → List Text → SheetRow
row_of_texts sheet texts = record { sheet = sheet; texts = texts }

-- A row has as many texts as its sheet has fields, and each is UTF-8. What they say isn't checked.
pub record IsSheetRow (row : SheetRow) : Type 0 where
  pub full : length row.texts ≡ width row.sheet
  pub utf8 : IsTrue (list_all is_utf8 row.texts)

-- The key: the first text, or the first three or two, depending on the sheet.
abbrev pub key : SheetRow → KeyTexts
key row = take (key_len row.sheet) row.texts

-- All texts after its key are empty.
abbrev pub is_key_alone : SheetRow → Bool
is_key_alone row = list_all (λ text. bytes_eq text (codes "")) (drop (key_len row.sheet) row.texts)

-- The texts of the row that a file of this width has.
abbrev pub shown_texts : Bool → SheetRow → List Text
shown_texts wide row = take (column_count wide row.sheet) row.texts

-- The texts of the row that a file of this width leaves out.
abbrev pub left_out : Bool → SheetRow → List Text
left_out wide row = drop (column_count wide row.sheet) row.texts

-- A file of this width loses nothing of the row: all texts that it leaves out are empty.
abbrev pub fits : Bool → SheetRow → Bool
fits wide row = list_all is_absent (left_out wide row)
