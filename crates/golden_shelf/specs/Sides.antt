-- Sides: the lines of one sheet, and what the last publication replaced.
use Rattle.std.specs.Prelude.{◌≡◌, ℕ, ◌+◌, ◌≤◌, true, List, [], length, map, option_map, Option}
use Rattle.std.specs.FinMap.Entries.{is_sorted}
use Rattle.lei_records.specs.declared.view.RowKey.{RowKey}
use Rattle.lei_records.specs.Tables.{key_cmp}
use Rattle.copy_csv.specs.Sheets.{SheetRow}
use Rattle.copy_forms.specs.Files.{row_renderings}
use Rattle.golden_shelf.specs.declared.lines.Note.{Note}
use Rattle.golden_shelf.specs.Keys.{key_texts}
use Rattle.golden_shelf.specs.Lines.{AreSorted, KeyedLine, LineChange, with_lines}
use Rattle.golden_shelf.specs.Beside.{LinesState}

-- A note as a change of a line.
abbrev pub note_change : Note → LineChange
note_change note = (key_texts note.key, note.texts)

-- A note of what became of a key: the key, and the texts of its row if it has one.
pub record NotesChange (change : RowKey × Option SheetRow) (note : Note) : Type 0 where
  pub key_is : note.key ≡ change.0
  pub texts_are : note.texts ≡ option_map row_renderings change.1

-- Notes as changes of lines.
abbrev pub notes_of : List Note → List LineChange
notes_of = map note_change

-- The keys of changes rise, so that none occurs twice.
abbrev pub AreRisingChanges : List LineChange → Type 0
AreRisingChanges changes = is_sorted key_cmp changes ≡ true

-- The lines of a sheet, what the last publication replaced, and the number of lines that there is room for.
pub record SideState : Type 0 where
  pub lines : List KeyedLine
  pub notes : List LineChange
  pub room : ℕ

-- What holds for a side: the keys of lines and notes rise, no line waits, and there is room to take the notes back.
pub record AreSide (rows rest : LinesState) (notes : List LineChange) : Type 0 where
  pub none_waits : rest.lines ≡ []
  pub sorted : AreSorted rows.lines
  pub rising : AreRisingChanges notes
  pub room : length rows.lines + length notes ≤ rest.room
  pub rooms : rest.room ≤ rows.room

-- A side with the same lines and notes.
pub record IsSameSide (old new : SideState) : Type 0 where
  pub lines_are : new.lines ≡ old.lines
  pub notes_are : new.notes ≡ old.notes

-- There is room to put changes and to take them back.
abbrev pub HasRoomForChanges : SideState → List Note → Type 0
HasRoomForChanges side changes = length side.lines + length changes + length changes ≤ side.room

-- A side whose lines are changed, and whose notes undo that.
pub record IsChanged (old new : SideState) (changes : List Note) : Type 0 where
  pub lines_are : new.lines ≡ with_lines old.lines (notes_of changes)
  pub back : with_lines new.lines new.notes ≡ old.lines
