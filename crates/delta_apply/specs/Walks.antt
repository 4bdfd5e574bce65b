-- The output of a walk over rows and changes.
use Rattle.std.specs.Prelude.{◌≡◌, ◌≢◌, ◌-◌, Bool, List, ◌++◌, codes, take, length, flat_map, false, true, Result, Ok, Err, ⊤}
use Rattle.lei_code.specs.Texts.{Text}
use Rattle.copy_csv.specs.declared.heads.Head.{Head}
use Rattle.copy_csv.specs.declared.rows.Change.{Change}
use Rattle.register_words.specs.declared.sheets.Sheet.{Sheet}
use Rattle.copy_csv.specs.Csv.{IsCsvCopy, csv_copy, row_line}
use Rattle.copy_csv.specs.Rows.{IsRowIn}
use Rattle.copy_csv.specs.Sheets.{SheetRow, key}
use Rattle.copy_csv.specs.Taking.{AreReadFrom}
use Rattle.copy_forms.specs.Json.{json_copy}
use Rattle.copy_forms.specs.Patching.{patched, patched_head}
use Rattle.delta_apply.specs.declared.fault.ApplyFault.{ApplyFault}
use Rattle.delta_apply.specs.declared.fault.ApplyFault.TheVariants as faults
use Rattle.copy_forms.specs.Merging.{rows_with_changes}

-- ---- in CSV

-- The line of a row that stays: unchanged, or in a copy that becomes wide with four empty columns before its LF.
abbrev pub kept_line : Bool → Text → Text
kept_line false line = line
kept_line true line = take (length line - 1) line ++ codes ",\"\",\"\",\"\",\"\"\n"

-- The bytes are the lines of rows of a sheet in the base's width, whose keys rise. The lines of these rows after the
-- changes were appended to `old`, in the delta's width.
pub record PutsLines (sheet : Sheet) (base_wide wide : Bool) (bytes : Text) (changes : List Change)
    (old new : Text) : Type 0 where
  pub rows : List SheetRow
  pub are : AreReadFrom (row_line base_wide) (IsRowIn sheet base_wide) key bytes rows
  pub put : new ≡ old ++ flat_map (row_line wide) (rows_with_changes rows changes)

-- The lines are those of rows of a sheet in the base's width, whose keys rise. The bytes are the copy of these rows
-- after the changes, in the delta's width.
pub record AreLinesPatched (sheet : Sheet) (base_wide wide : Bool) (lines : Text) (changes : List Change)
    (bytes : Text) : Type 0 where
  pub rows : List SheetRow
  pub are : AreReadFrom (row_line base_wide) (IsRowIn sheet base_wide) key lines rows
  pub bytes_are : bytes ≡ csv_copy sheet wide (patched rows changes)

-- The first text is a copy in CSV, not wider than the delta. The bytes are the copy of its rows after the changes, in
-- the delta's width.
pub record IsCopyPatched (sheet : Sheet) (copy : Text) (wide : Bool) (changes : List Change)
    (bytes : Text) : Type 0 where
  pub base_wide : Bool
  pub rows : List SheetRow
  pub is : IsCsvCopy sheet copy base_wide rows
  pub newer : base_wide ≡ true → wide ≡ true
  pub bytes_are : bytes ≡ csv_copy sheet wide (patched rows changes)

-- The result in CSV for a copy and for changes that were read in this width. It is the copy after the changes, or says
-- that there is no copy, or that the copy is wide and the changes aren't. Out of memory says nothing.
abbrev pub IsPatchedCsv : Sheet → Text → Bool → List Change → Result Text ApplyFault → Type 0
IsPatchedCsv sheet copy wide changes (Ok bytes) = IsCopyPatched sheet copy wide changes bytes
IsPatchedCsv sheet copy wide changes (Err faults.CopyNotRead) =
    (base_wide : Bool) (rows : List SheetRow) → IsCsvCopy sheet copy base_wide rows → ⊥
IsPatchedCsv sheet copy wide changes (Err faults.DeltaNotRead) = ⊥
IsPatchedCsv sheet copy wide changes (Err (faults.WrongBase publication from)) = ⊥
IsPatchedCsv sheet copy wide changes (Err faults.OlderDelta) =
    (rows : List SheetRow) × IsCsvCopy sheet copy true rows × (wide ≡ false)
IsPatchedCsv sheet copy wide changes (Err faults.NoMemory) = ⊤

-- ---- in JSON

-- The result for rows and changes that were read from JSON with these heads. It is the patched copy with the delta's
-- head, or the wrong base with both numbers. Both texts were read, and there is only one width, so no other fault
-- occurs. Out of memory says nothing.
abbrev pub IsPatchedJson : Head → List SheetRow → Head → List Change → Result Text ApplyFault → Type 0
IsPatchedJson base rows head changes (Ok bytes) =
    (base.publication ≡ head.from) × (bytes ≡ json_copy (patched_head head) (patched rows changes))
IsPatchedJson base rows head changes (Err faults.CopyNotRead) = ⊥
IsPatchedJson base rows head changes (Err faults.DeltaNotRead) = ⊥
IsPatchedJson base rows head changes (Err (faults.WrongBase publication from)) =
    (publication ≡ base.publication) × (from ≡ head.from) × (base.publication ≢ head.from)
IsPatchedJson base rows head changes (Err faults.OlderDelta) = ⊥
IsPatchedJson base rows head changes (Err faults.NoMemory) = ⊤
