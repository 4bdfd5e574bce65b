-- The texts of copies and of deltas in both forms, and what is in such a text.
use Rattle.std.specs.Prelude.{◌≡◌, Bool, List, None, Some, false, true, ⊤, IsTrue}
use Rattle.std.specs.List.{All}
use Rattle.lei_code.specs.Texts.{Text}
use Rattle.copy_csv.specs.declared.heads.CopyRead.{CopyRead}
use Rattle.copy_csv.specs.declared.heads.DeltaRead.{DeltaRead}
use Rattle.copy_csv.specs.declared.heads.Head.{Head}
use Rattle.copy_csv.specs.declared.rows.Change.{Change}
use Rattle.copy_csv.specs.declared.rows.RowTexts.{RowTexts}
use Rattle.register_words.specs.declared.sheets.Form.{Form}
use Rattle.register_words.specs.declared.sheets.Sheet.{Sheet}
use Rattle.copy_csv.specs.Csv.{Rendered, csv_copy, csv_delta, row_start, row_tail}
use Rattle.copy_forms.specs.Json.{json_copy, json_delta, json_record}
use Rattle.copy_csv.specs.Rows.{AreChanges, AreRows, IsCopyHead, IsDeltaHead, changed_row}
use Rattle.copy_csv.specs.Sheets.{SheetRow, fits, has_widths}

-- The texts of a row: its line in CSV, in two parts, and its record in JSON.
abbrev pub row_renderings : SheetRow → RowTexts
row_renderings row = record { csv = row_start row; tail = row_tail row; json = json_record row }

-- A change. If it puts its row, the row is rendered.
abbrev pub rendered_change : Change → Rendered
rendered_change (Change.Put row) = Rendered.put (row_renderings row)
rendered_change (Change.Drop row) = Rendered.drop row

-- Whether files of a sheet come in two widths, a narrow and a wide one: in CSV those of `lei` do.
abbrev pub may_be_wide : Sheet → Form → Bool
may_be_wide sheet Form.Csv = has_widths sheet
may_be_wide sheet Form.Json = false

-- The text of a copy of this width. In CSV the head isn't printed, and in JSON there is only one width.
abbrev pub copy : Sheet → Form → Bool → Head → List SheetRow → Text
copy sheet Form.Csv wide head rows = csv_copy sheet wide rows
copy sheet Form.Json wide head rows = json_copy head rows

-- The text of a delta of this width.
abbrev pub delta : Sheet → Form → Bool → Head → List Change → Text
delta sheet Form.Csv wide head changes = csv_delta sheet wide changes
delta sheet Form.Json wide head changes = json_delta head changes

-- A file of this form and width loses nothing of the row. In CSV, the row has nothing for the columns that the file
-- lacks. In JSON, every field that is present is in the file.
abbrev pub FitsIn : Form → Bool → SheetRow → Type 0
FitsIn Form.Csv wide row = IsTrue (fits wide row)
FitsIn Form.Json wide row = ⊤

-- The bytes are the copy of a sheet in this width with this head and these rows. The head is one of a copy. The rows
-- are rows of the sheet whose keys rise, and the copy loses nothing of them.
pub record IsCopy (bytes : Text) (sheet : Sheet) (form : Form) (head : Head) (wide : Bool)
    (rows : List SheetRow) : Type 0 where
  pub text : bytes ≡ copy sheet form wide head rows
  pub head_is : IsCopyHead head
  pub wide_is : wide ≡ true → may_be_wide sheet form ≡ true
  pub rows_are : AreRows sheet rows
  pub fit : All (FitsIn form wide) rows

-- The same for a delta.
pub record IsDelta (bytes : Text) (sheet : Sheet) (form : Form) (head : Head) (wide : Bool)
    (changes : List Change) : Type 0 where
  pub text : bytes ≡ delta sheet form wide head changes
  pub head_is : IsDeltaHead head
  pub wide_is : wide ≡ true → may_be_wide sheet form ≡ true
  pub changes_are : AreChanges sheet changes
  pub fit : All (λ change. FitsIn form wide (changed_row change)) changes

-- What is read from a copy: in JSON its head and its rows, and in CSV its width and its rows. In CSV the bytes are the
-- copy with this width and these rows under every head.
abbrev pub IsCopyRead : Text → Sheet → Form → CopyRead → Type 0
IsCopyRead bytes sheet Form.Csv read =
    (read.head ≡ None)
    × ((head : Head) → IsCopyHead head → IsCopy bytes sheet Form.Csv head read.wide read.rows)
IsCopyRead bytes sheet Form.Json read =
    (head : Head) × (read.head ≡ Some head) × IsCopy bytes sheet Form.Json head read.wide read.rows

-- The same for a delta.
abbrev pub IsDeltaRead : Text → Sheet → Form → DeltaRead → Type 0
IsDeltaRead bytes sheet Form.Csv read =
    (read.head ≡ None)
    × ((head : Head) → IsDeltaHead head → IsDelta bytes sheet Form.Csv head read.wide read.changes)
IsDeltaRead bytes sheet Form.Json read =
    (head : Head) × (read.head ≡ Some head) × IsDelta bytes sheet Form.Json head read.wide read.changes
