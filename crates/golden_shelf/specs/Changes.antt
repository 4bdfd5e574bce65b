-- What a publication changes, and the publication that results.
use Rattle.std.specs.Prelude.{◌≡◌, ℤ, Bool, false, List, Option, IfSome, IsTrue, map}
use Rattle.std.specs.List.{AllByRecursion, filter}
use Rattle.lei_records.specs.declared.view.RowKey.{RowKey}
use Rattle.lei_records.specs.Tables.{KeyTexts}
use Rattle.copy_csv.specs.declared.rows.Change.{Change}
use Rattle.register_words.specs.declared.sheets.Sheet.{Sheet}
use Rattle.copy_csv.specs.Rows.{IsRowOfSheet, KeysRise}
use Rattle.copy_csv.specs.Sheets.{SheetRow, fits, key}
use Rattle.copy_forms.specs.Patching.{patched}
use Rattle.copy_forms.specs.Trails.{IsKeyOf, Publication, change_to}
use Rattle.golden_shelf.specs.Keys.{is_key_of, key_texts, sheet_of_key}

-- What became of keys since a publication: each with its current row, or with none.
abbrev pub KeyChanges : Type 0
KeyChanges = List (RowKey × Option SheetRow)

-- The changes of one sheet.
abbrev pub in_sheet : Sheet → KeyChanges → KeyChanges
in_sheet sheet changes = filter (λ change. is_key_of sheet change.0) changes

-- The changes of one sheet as a delta has them: a row that is put, or a key that is dropped.
abbrev pub changes_of : Sheet → KeyChanges → List Change
changes_of sheet changes = map (λ change. change_to sheet (key_texts change.0) change.1)
    (in_sheet sheet changes)

-- The keys of a sheet among those that changed.
abbrev pub touched_by : Sheet → KeyChanges → List KeyTexts
touched_by sheet changes = map (λ change. key_texts change.0) (in_sheet sheet changes)

-- A row of this sheet under this key.
pub record IsRowUnder (sheet : Sheet) (k : KeyTexts) (row : SheetRow) : Type 0 where
  pub row_is : IsRowOfSheet sheet row
  pub key_is : key row ≡ k

-- The key fits its sheet, and its row, if it has one, is a row of this sheet under this key.
pub record IsOwnChange (change : RowKey × Option SheetRow) : Type 0 where
  pub key_is : IsKeyOf (sheet_of_key change.0) (key_texts change.0)
  pub row_is : IfSome change.1 (IsRowUnder (sheet_of_key change.0) (key_texts change.0))

-- Each change is of this kind, and the keys of each sheet rise, so that none occurs twice.
pub record AreOwnChanges (changes : KeyChanges) : Type 0 where
  pub each : AllByRecursion IsOwnChange changes
  pub rising : (sheet : Sheet) → KeysRise (touched_by sheet changes)

-- The row of a change, if it has one, has nothing in the columns that only a wide file has.
abbrev pub IsPlain : RowKey × Option SheetRow → Type 0
IsPlain change = IfSome change.1 (λ row. IsTrue (fits false row))

-- Each change of `lei` is of this kind. A narrow publication has no others.
abbrev pub ArePlain : KeyChanges → Type 0
ArePlain changes = AllByRecursion IsPlain (in_sheet Sheet.Lei changes)

-- The publication that follows these rows with these changes. It has the moment, the width and the keys that changed.
-- Its rows of each sheet are the rows before, patched by the changes of that sheet.
pub record IsIssued (before : Sheet → List SheetRow) (moment : ℤ) (wide : Bool) (changes : KeyChanges)
    (next : Publication) : Type 0 where
  pub moment_is : next.moment ≡ moment
  pub wide_is : next.wide ≡ wide
  pub rows_are : (sheet : Sheet) → next.rows sheet ≡ patched (before sheet) (changes_of sheet changes)
  pub touched_are : (sheet : Sheet) → next.touched sheet ≡ touched_by sheet changes
