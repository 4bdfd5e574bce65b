-- Undos: which writes may be applied to a table, what they do to its cells, and how the last ones are undone.
use Rattle.std.specs.Prelude.{◌≡◌, ℕ, ◌<◌, Bool, false, List, [], ◌∷◌, Option, Some, None, option_map, ⊤}
use Rattle.std.specs.FinMap.{get, insert, remove}
use Rattle.lei_records.specs.declared.item.Item.{Item}
use Rattle.lei_records.specs.declared.view.RowKey.{RowKey}
use Rattle.lei_records.specs.Rows.{Row}
use Rattle.lei_records.specs.Tables.{KeyTexts, Table, put_write, row_key}
use Rattle.register_table.specs.Held.{CanBeKept, Cell, Held, cell_key}

-- Writes, in order: a key with its item, or with none for a withdrawal.
abbrev pub WriteList : Type 0
WriteList = List (RowKey × Option Item)

-- ---- which writes may be applied

-- The item is an exception that withdraws the one under its key.
abbrev pub is_withdrawal : Item → Bool
is_withdrawal (Item.Exception item) = item.1
is_withdrawal item = false

-- A write has the key of its item, which isn't a withdrawal, or it has the key of an exception and no item.
abbrev pub IsOwn : RowKey × Option Item → Type 0
IsOwn (key, Some item) = (key ≡ row_key item) × (is_withdrawal item ≡ false)
IsOwn (RowKey.Exc lei category, None) = ⊤
IsOwn (key, None) = ⊥

-- Each write has this property.
abbrev pub AreOwn : WriteList → Type 0
AreOwn [] = ⊤
AreOwn (write ∷ writes) = IsOwn write × AreOwn writes

-- After each of the writes the table can be kept.
abbrev pub StaysKept : WriteList → Table → Type 0
StaysKept [] table = ⊤
StaysKept (write ∷ writes) table = CanBeKept (put_write table write) × StaysKept writes (put_write table write)

-- Writes may be applied to a table. Each has the key of its item, which isn't a withdrawal, or the key of an exception
-- and no item. After each of them the table is sound and not too large.
pub record MayApply (writes : WriteList) (table : Table) : Type 0 where
  pub own : AreOwn writes
  pub kept : StaysKept writes table

-- ---- what writes do to cells

-- The row of an item.
abbrev pub row_in_item : Item → Row
row_in_item (Item.Record row) = row
row_in_item (Item.Relation row) = row
row_in_item (Item.Exception item) = item.0

-- The cell of a key under which the entry with this number puts an item, or none.
abbrev pub cell_with : ℕ → Option Item → Cell
cell_with entry item = record { entry = entry; row = option_map row_in_item item }

-- The cells after a write of the entry with this number.
abbrev pub touch : ℕ → Held → RowKey × Option Item → Held
touch entry held write = insert held (cell_key write.0) (cell_with entry write.1)

-- The cells after writes of the entry with this number, from the first to the last.
abbrev pub touch_all : ℕ → WriteList → Held → Held
touch_all entry [] held = held
touch_all entry (write ∷ writes) held = touch_all entry writes (touch entry held write)

-- A number is greater than that of each cell.
abbrev pub IsLater : ℕ → Held → Type 0
IsLater entry held = (key : KeyTexts) (cell : Cell) → get held key ≡ Some cell → cell.entry < entry

-- ---- notes, by which writes are undone

-- Notes, in order: a key with the cell that was there before, or with none.
abbrev pub Notes : Type 0
Notes = List (RowKey × Option Cell)

-- The cells with this one under the key, or with none.
abbrev pub cells_with : Held → KeyTexts → Option Cell → Held
cells_with held key (Some cell) = insert held key cell
cells_with held key None = remove held key

-- The cells with a note put back.
abbrev pub put_back : Held → RowKey × Option Cell → Held
put_back held note = cells_with held (cell_key note.0) note.1

-- The cells with all notes put back, from the last to the first.
abbrev pub cells_before : Notes → Held → Held
cells_before [] held = held
cells_before (note ∷ notes) held = put_back (cells_before notes held) note
