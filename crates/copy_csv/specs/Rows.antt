-- The rows of golden copies, and of deltas between them, with their heads.
use Rattle.std.specs.Prelude.{◌≡◌, ◌≤◌, ℕ, Bool, List, map, ⊤, IsTrue}
use Rattle.std.specs.List.{All}
use Rattle.std.specs.List.Sorted.{IsStrictlySortedBy}
use Rattle.lei_shapes.specs.Moment.{IsMoment}
use Rattle.lei_records.specs.Tables.{KeyTexts, key_cmp}
use Rattle.register_words.specs.declared.sheets.Sheet.{Sheet}
use Rattle.copy_csv.specs.declared.heads.Head.{Head}
use Rattle.copy_csv.specs.declared.rows.Change.{Change}
use Rattle.copy_csv.specs.Sheets.{IsSheetRow, SheetRow, fits, is_key_alone, key}

-- The keys rise strictly in byte order, text by text, so that none occurs twice.
abbrev pub KeysRise : List KeyTexts → Type 0
KeysRise keys = IsStrictlySortedBy key_cmp keys

-- ---- deltas

-- The row of a change.
abbrev pub changed_row : Change → SheetRow
changed_row (Change.Put row) = row
changed_row (Change.Drop row) = row

-- The key of a change.
abbrev pub changed_key : Change → KeyTexts
changed_key change = key (changed_row change)

-- In the row of a key that is dropped, all texts after the key are empty.
abbrev pub IsDropOfKey : Change → Type 0
IsDropOfKey (Change.Put row) = ⊤
IsDropOfKey (Change.Drop row) = IsTrue (is_key_alone row)

-- ---- heads

-- A number that a publication can have.
abbrev pub IsPublicationNumber : ℕ → Type 0
IsPublicationNumber number = (1 ≤ number) × (number ≤ 1_000_000)

-- The head of a copy: a moment, the publication's number, and no publication that it starts from.
pub record IsCopyHead (head : Head) : Type 0 where
  pub moment : IsMoment head.moment
  pub publication : IsPublicationNumber head.publication
  pub from : head.from ≡ 0

-- The head of a delta: a moment, the publication's number, and that of the publication that it starts from. The latter
-- may be the greater one.
pub record IsDeltaHead (head : Head) : Type 0 where
  pub moment : IsMoment head.moment
  pub publication : IsPublicationNumber head.publication
  pub from : IsPublicationNumber head.from

-- ---- the rows of a file

-- A row of this sheet.
abbrev pub IsRowOfSheet : Sheet → SheetRow → Type 0
IsRowOfSheet sheet row = IsSheetRow row × (row.sheet ≡ sheet)

-- A row of this sheet of which a file of this width leaves nothing out.
abbrev pub IsRowIn : Sheet → Bool → SheetRow → Type 0
IsRowIn sheet wide row = IsRowOfSheet sheet row × IsTrue (fits wide row)

-- The rows of a copy of a sheet: rows of this sheet whose keys rise.
pub record AreRows (sheet : Sheet) (rows : List SheetRow) : Type 0 where
  pub each : All (IsRowOfSheet sheet) rows
  pub rising : KeysRise (map key rows)

-- A change of a row of this sheet. If the key is dropped, the row has only the key.
abbrev pub IsChangeOf : Sheet → Change → Type 0
IsChangeOf sheet change = IsRowOfSheet sheet (changed_row change) × IsDropOfKey change

-- A change of a row of this sheet of which a file of this width leaves nothing out.
abbrev pub IsChangeIn : Sheet → Bool → Change → Type 0
IsChangeIn sheet wide change = IsChangeOf sheet change × IsTrue (fits wide (changed_row change))

-- The changes of a delta of a sheet: changes of rows of this sheet whose keys rise.
pub record AreChanges (sheet : Sheet) (changes : List Change) : Type 0 where
  pub each : All (IsChangeOf sheet) changes
  pub rising : KeysRise (map changed_key changes)
