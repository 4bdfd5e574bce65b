-- The text of a copy and of a delta in CSV (RFC 4180). Every field is in quotes, and each line ends with LF.
use Rattle.std.specs.Prelude.{◌≡◌, ℕ, List, [], ◌∷◌, ◌++◌, ◌==◌, Bool, true, false, if◌then◌else◌, flat_map, codes, IsTrue}
use Rattle.std.specs.List.{All}
use Rattle.lei_code.specs.Texts.{Text}
use Rattle.register_words.specs.declared.sheets.Sheet.{Sheet}
use Rattle.copy_csv.specs.declared.rows.Change.{Change}
use Rattle.copy_csv.specs.declared.rows.RowTexts.{RowTexts}
use Rattle.copy_csv.specs.declared.rows.TextChange.{TextChange}
use Rattle.copy_csv.specs.Rows.{AreChanges, AreRows, changed_row}
use Rattle.copy_csv.specs.Sheets.{SheetRow, fits, has_widths, left_out, names_shown, shown_texts}

-- A byte of a field. A quote, which is the byte 34, is doubled.
abbrev pub field_byte : ℕ → List ℕ
field_byte byte = if byte == 34 then 34 ∷ 34 ∷ [] else byte ∷ []

-- A field in quotes.
abbrev pub in_quotes : Text → Text
in_quotes text = 34 ∷ (flat_map field_byte text ++ 34 ∷ [])

-- The byte after a field: a comma if a field follows, and LF after the last field.
abbrev pub separator : List Text → ℕ
separator [] = 10
separator (text ∷ texts) = 44

-- A line of these fields.
abbrev pub csv_line : List Text → Text
csv_line [] = []
csv_line (text ∷ texts) = in_quotes text ++ (separator texts ∷ csv_line texts)

-- The line of a row in a file of this width.
abbrev pub row_line : Bool → SheetRow → Text
row_line wide row = csv_line (shown_texts wide row)

-- The fields of a change: its action on the key, and the texts of its row.
abbrev pub change_fields : Bool → Change → List Text
change_fields wide (Change.Put row) = codes "PUT" ∷ shown_texts wide row
change_fields wide (Change.Drop row) = codes "DROP" ∷ shown_texts wide row

-- The line of a change.
abbrev pub change_line : Bool → Change → Text
change_line wide change = csv_line (change_fields wide change)

-- The names at the head of a delta: that of the action, and those of the fields.
abbrev pub delta_names : Bool → Sheet → List Text
delta_names wide sheet = codes "Delta.Action" ∷ names_shown wide sheet

-- A copy of this width: a line with the names of the fields, and a line for each row.
unfoldable pub csv_copy : Sheet → Bool → List SheetRow → Text
csv_copy sheet wide rows = csv_line (names_shown wide sheet) ++ flat_map (row_line wide) rows

-- A delta of this width: a line with the names of the columns, and a line for each change.
unfoldable pub csv_delta : Sheet → Bool → List Change → Text
csv_delta sheet wide changes = csv_line (delta_names wide sheet) ++ flat_map (change_line wide) changes

-- The bytes are the copy of this width with these rows. The rows are of this sheet, their keys rise, and they have
-- nothing for the columns that the copy lacks. Only a sheet that has widths has a wide copy.
pub record IsCsvCopy (sheet : Sheet) (bytes : Text) (wide : Bool) (rows : List SheetRow) : Type 0 where
  pub text : bytes ≡ csv_copy sheet wide rows
  pub wide_is : wide ≡ true → has_widths sheet ≡ true
  pub rows_are : AreRows sheet rows
  pub fit : All (λ row. IsTrue (fits wide row)) rows

-- The same for a delta.
pub record IsCsvDelta (sheet : Sheet) (bytes : Text) (wide : Bool) (changes : List Change) : Type 0 where
  pub text : bytes ≡ csv_delta sheet wide changes
  pub wide_is : wide ≡ true → has_widths sheet ≡ true
  pub changes_are : AreChanges sheet changes
  pub fit : All (λ change. IsTrue (fits wide (changed_row change))) changes

-- ---- lines that are joined from rendered texts

-- A field preceded by a comma.
abbrev pub after_comma : Text → Text
after_comma text = 44 ∷ in_quotes text

-- Fields separated by commas.
abbrev pub csv_fields_text : List Text → Text
csv_fields_text [] = []
csv_fields_text (text ∷ texts) = in_quotes text ++ flat_map after_comma texts

-- The start of a row's line, up to the end of the line in a narrow file, without LF.
abbrev pub row_start : SheetRow → Text
row_start row = csv_fields_text (shown_texts false row)

-- What the line of a wide file has in addition: the further fields, each preceded by a comma. Only `lei` has any.
abbrev pub row_tail : SheetRow → Text
row_tail row = flat_map after_comma (left_out false row)

-- The line of a row that was rendered.
abbrev pub joined_line : Bool → RowTexts → Text
joined_line wide texts = texts.csv ++ ((if wide then texts.tail else []) ++ 10 ∷ [])

-- What a delta says about a key: the texts of the row that is put, or the row of the key that is dropped.
pub data Rendered : Type 0 where
  put : RowTexts → Rendered
  drop : SheetRow → Rendered

-- The same for a change that refers to the texts of its row.
abbrev pub rendered_in : TextChange → Rendered
rendered_in (TextChange.Put texts) = Rendered.put texts.now
rendered_in (TextChange.Drop row) = Rendered.drop row

-- The line of a change that has the texts of its row.
abbrev pub rendered_line : Bool → Rendered → Text
rendered_line wide (Rendered.put texts) = codes "\"PUT\"," ++ joined_line wide texts
rendered_line wide (Rendered.drop row) = codes "\"DROP\"," ++ row_line wide row

-- The line of a change that refers to the texts of its row.
abbrev pub text_change_line : Bool → TextChange → Text
text_change_line wide change = rendered_line wide (rendered_in change)
