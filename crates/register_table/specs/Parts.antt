-- Parts: the cells of a table with the two indexes over them, and notes of what writes replaced.
use Rattle.std.specs.Prelude.{◌≡◌, true, List, [], ◌∷◌, Option, Some, IfSome, IsSome, if◌then◌else◌, is_some, map, option_map, ⊤}
use Rattle.std.specs.FinMap.{get}
use Rattle.std.specs.List.{AllByRecursion}
use Rattle.lei_code.specs.Texts.{Lei, Text}
use Rattle.lei_shapes.specs.declared.lists.RelationType.{RelationType}
use Rattle.lei_records.specs.declared.item.Item.{Item}
use Rattle.lei_records.specs.declared.view.RowKey.{RowKey}
use Rattle.lei_records.specs.Cells.{holds, lei_in}
use Rattle.lei_records.specs.Relations.{end_in, is_active_of}
use Rattle.lei_records.specs.Rows.{Row}
use Rattle.lei_records.specs.Tables.{KeyTexts, Table, active_of, holder_of}
use Rattle.register_table.specs.declared.ends.Ends.{Ends}
use Rattle.register_table.specs.declared.authority_key_index.AuthorityKeyIndex.{AuthorityKeyIndex}
use Rattle.register_table.specs.declared.parts.Note.{Note}
use Rattle.register_table.specs.declared.parts.Parts.{Parts}
use Rattle.register_table.specs.Cells.{IsOwnCell, cell_in}
use Rattle.register_table.specs.Held.{CanBeKept, Cell, Held, cell_key, rows}
use Rattle.register_table.specs.Indexes.{HasNewEnd, HoldsNewKey, Marks, end_in_index, holder_in, noted_in, taken_in}
use Rattle.register_table.specs.Undos.{Notes, cells_before, put_back}

-- ---- what is noted for an item

-- The LEIs under authority keys after an item is noted.
abbrev pub holder_after : Option Item → (Text → Text → Option Lei) → Text → Text → Option Lei
holder_after (Some (Item.Record row)) before authority id =
    if holds authority id row then Some (lei_in row) else before authority id
holder_after item before authority id = before authority id

-- The ends under starts and types after an item is noted.
abbrev pub end_after : Option Item → (Lei → RelationType → Option Lei) → Lei → RelationType → Option Lei
end_after (Some (Item.Relation row)) before start kind =
    if is_active_of start kind row then Some (end_in row) else before start kind
end_after item before start kind = before start kind

-- The later indexes are the earlier ones with an item noted.
pub record AreNoted (item : Option Item) (holders : AuthorityKeyIndex) (ends : Ends)
    (newer : AuthorityKeyIndex) (later : Ends) : Type 0 where
  pub by_key : (authority id : Text)
      → holder_in newer authority id ≡ holder_after item (holder_in holders) authority id
  pub by_start : (start : Lei) (kind : RelationType)
      → end_in_index later start kind ≡ end_after item (end_in_index ends) start kind

-- An item has a key that its index doesn't have.
abbrev pub IsNewItem : Option Item → AuthorityKeyIndex → Ends → Type 0
IsNewItem (Some (Item.Record row)) holders ends = HoldsNewKey row holders
IsNewItem (Some (Item.Relation row)) holders ends = HasNewEnd row ends
IsNewItem item holders ends = ⊥

-- Each key of an item is marked.
abbrev pub IsMarked : Marks → Option Item → Type 0
IsMarked marks (Some (Item.Record row)) =
    (authority id : Text) → holds authority id row ≡ true → marks.by_key authority id ≡ true
IsMarked marks (Some (Item.Relation row)) =
    (start : Lei) (kind : RelationType) → is_active_of start kind row ≡ true
    → marks.by_start start kind ≡ true
IsMarked marks item = ⊤

-- Each key of an item that is marked in `some` is also marked in `others`.
abbrev pub MarksAreWithin : Marks → Marks → Option Item → Type 0
MarksAreWithin some others (Some (Item.Record row)) =
    (authority id : Text) → holds authority id row ≡ true → some.by_key authority id ≡ true
    → others.by_key authority id ≡ true
MarksAreWithin some others (Some (Item.Relation row)) =
    (start : Lei) (kind : RelationType) → is_active_of start kind row ≡ true → some.by_start start kind ≡ true
    → others.by_start start kind ≡ true
MarksAreWithin some others item = ⊤

-- The same for the item of a note, if it has one.
abbrev pub IsNoteWithin : Marks → Marks → Note → Type 0
IsNoteWithin some others note = IfSome note.slot (λ slot. MarksAreWithin some others slot.item)

-- The authority keys that a live record has, and the starts and types of active relationships.
abbrev pub held_by : Table → Marks
held_by table = record {
  by_key = λ authority id. is_some (holder_of table authority id);
  by_start = λ start kind. is_some (active_of table start kind);
}

-- What was marked before is still marked after.
pub record MarksStay (before after : Marks) : Type 0 where
  pub by_key : (authority id : Text) → before.by_key authority id ≡ true → after.by_key authority id ≡ true
  pub by_start : (start : Lei) (kind : RelationType) → before.by_start start kind ≡ true
      → after.by_start start kind ≡ true

-- ---- indexes over a table

-- The LEI of each record that holds an authority key is noted under it. The end of each active relationship is noted
-- under its start and type. What else is noted doesn't matter.
pub record AreIndexes (table : Table) (holders : Text → Text → Option Lei)
    (ends : Lei → RelationType → Option Lei) : Type 0 where
  pub by_key : (authority id : Text) (key : KeyTexts) (row : Row) → get table.records key ≡ Some row
      → holds authority id row ≡ true → holders authority id ≡ Some (lei_in row)
  pub by_start : (start : Lei) (kind : RelationType) (key : KeyTexts) (row : Row)
      → get table.relations key ≡ Some row
      → is_active_of start kind row ≡ true → ends start kind ≡ Some (end_in row)

-- The cells can be kept, and the indexes are those of their rows.
pub record ArePartsOfTable (parts : Parts) : Type 0 where
  pub kept : CanBeKept (rows parts.cells)
  pub indexes : AreIndexes (rows parts.cells) (holder_in parts.holders) (end_in_index parts.ends)

-- ---- notes

-- The note as contracts see it.
abbrev pub note_cell : Note → RowKey × Option Cell
note_cell note = (note.key, option_map cell_in note.slot)

-- What a note has belongs to its key, and each key of its item is marked.
pub record NotesCell (marks : Marks) (note : Note) : Type 0 where
  pub own : IfSome note.slot (IsOwnCell note.key)
  pub marked : IfSome note.slot (λ slot. IsMarked marks slot.item)

-- The notes can be put back from the last to the first. The key of each has a cell when it is put back, and the cells
-- can be kept afterwards.
abbrev pub AreUndoable : Notes → Held → Type 0
AreUndoable [] held = ⊤
AreUndoable (note ∷ notes) held = (IsSome (get (cells_before notes held) (cell_key note.0))
    × CanBeKept (rows (put_back (cells_before notes held) note))) × AreUndoable notes held

-- Notes can be put back into these cells, and each key of their items is marked.
pub record CanBeUndone (marks : Marks) (notes : List Note) (held : Held) : Type 0 where
  pub each : AllByRecursion (NotesCell marks) notes
  pub kept : AreUndoable (map note_cell notes) held

-- The keys that the indexes of these parts have, with or without an LEI.
abbrev pub all_marks : Parts → Marks
all_marks parts = noted_in parts.holders parts.ends

-- The keys that have an LEI in the indexes of these parts.
abbrev pub lei_marks : Parts → Marks
lei_marks parts = taken_in parts.holders parts.ends
