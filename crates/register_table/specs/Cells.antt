-- Cells as they are in memory: a list of slots under their keys.
use Rattle.std.specs.Prelude.{◌≡◌, List, map, Option, Some, None, ⊤}
use Rattle.std.specs.Borrow.{Bor}
use Rattle.std.specs.FinMap.{from_entries}
use Rattle.std.specs.List.{AllByRecursion}
use Rattle.lei_records.specs.declared.item.Item.{Item}
use Rattle.lei_records.specs.declared.view.RowKey.{RowKey}
use Rattle.lei_records.specs.Tables.{KeyTexts, row_key}
use Rattle.register_table.specs.declared.slots.Slot.{Slot}
use Rattle.register_table.specs.declared.keys.TextKey.{TextKey}
use Rattle.register_table.specs.declared.touched.Touched.{Touched}
use Rattle.register_table.specs.Held.{Cell, Held, cell_key}
use Rattle.register_table.specs.Undos.{cell_with}

-- The cell of a slot.
abbrev pub cell_in : Slot → Cell
cell_in slot = cell_with slot.entry slot.item

-- The item, if there is one, is under its own key.
abbrev pub IsItemOf : RowKey → Option Item → Type 0
IsItemOf key None = ⊤
IsItemOf key (Some item) = cell_key key ≡ cell_key (row_key item)

-- Each key in the list is that of its item.
abbrev pub AreOwnItems : List Touched → Type 0
AreOwnItems = AllByRecursion (λ told. IsItemOf told.key told.item)

-- The item of a slot, if it has one, is under its own key.
abbrev pub IsOwnCell : RowKey → Slot → Type 0
IsOwnCell key slot = IsItemOf key slot.item

-- The same for each slot.
abbrev pub AreOwnCells : List (TextKey × Slot) → Type 0
AreOwnCells = AllByRecursion (λ e. IsOwnCell e.0.key e.1)

-- The cell of a slot under the texts of its key.
abbrev pub under_texts : TextKey × Slot → KeyTexts × Cell
under_texts e = (cell_key e.0.key, cell_in e.1)

-- The cells of slots under keys.
unfoldable pub held_in : List (TextKey × Slot) → Held
held_in slots = from_entries (map under_texts slots)

-- Borrowed slots under keys, as slots.
abbrev pub owned_slots : List (TextKey × Bor Slot) → List (TextKey × Slot)
owned_slots = map (λ slot. (slot.0, slot.1.now))
