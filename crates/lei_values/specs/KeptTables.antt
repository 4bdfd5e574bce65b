-- What is kept of a register: its entries in order, and its cells in their places. Which tables there may be, what is read
-- of them, and what a batch adds to them.
use Rattle.std.specs.Prelude.{◌≡◌, ◌≢◌, ◌≤◌, ◌<◌, ◌+◌, ◌-◌, ◌&&◌, ℕ, List, [], ◌∷◌, ◌++◌, length, slice_get, map, filter, fold, nat_le, nat_lt, Option, None, Some, IfSome, ⊤}
use Rattle.std.specs.Cmp.Lexicographic.{slice_cmp}
use Rattle.std.specs.FinMap.{FinMap, empty, entries, get, insert}
use Rattle.std.specs.List.{AllByRecursion}
use Rattle.std.specs.Ordering.{nat_cmp}
use Rattle.std.specs.Str.{IsAscii}
use Rattle.lei_values.specs.declared.batch.Batch.{Batch}
use Rattle.lei_values.specs.declared.cell.KeptCell.{KeptCell}
use Rattle.lei_values.specs.declared.entry.KeptEntry.{KeptEntry}

-- ---- the two tables

-- The place of a cell: its kind, followed by the bytes of its name. So cells are in the order of kinds and names.
abbrev pub CellPlace : Type 0
CellPlace = List ℕ

-- What is kept of a cell: the number of the entry that touched it last, and the text of its row. After a withdrawal the
-- text is `None`.
pub record CellContent : Type 0 where
  pub touched : ℕ
  pub row : Option (List ℕ)

-- Cells in their places.
abbrev pub CellsByPlace : Type 0
CellsByPlace = FinMap (slice_cmp nat_cmp) CellContent

-- What is kept: the entries in order, and the cells.
pub record KeptTables : Type 0 where
  pub entries : List KeptEntry
  pub cells : CellsByPlace

-- The tables of a keeper that has kept nothing.
abbrev pub nothing_kept : KeptTables
nothing_kept = record { entries = []; cells = empty }

-- The place of a cell.
abbrev pub cell_place : KeptCell → CellPlace
cell_place cell = cell.kind ∷ cell.name

-- What is kept of it.
abbrev pub cell_content : KeptCell → CellContent
cell_content cell = record { touched = cell.touched; row = cell.row }

-- The cells after this one was put in its place.
abbrev pub put_cell : CellsByPlace → KeptCell → CellsByPlace
put_cell cells cell = insert cells (cell_place cell) (cell_content cell)

-- The cells after all of these were put in their places, from the first to the last.
abbrev pub put_cells : CellsByPlace → List KeptCell → CellsByPlace
put_cells cells list = fold put_cell cells list

-- The tables after a batch: its entry is added after the others, and its cells are put in their places.
abbrev pub with_batch : Batch → KeptTables → KeptTables
with_batch batch tables = record {
  entries = tables.entries ++ batch.entry ∷ [];
  cells = put_cells tables.cells batch.cells;
}

-- ---- which tables there are

-- The numbers of entries rise, and the first is greater than this number.
abbrev pub RiseFrom : ℕ → List KeptEntry → Type 0
RiseFrom number [] = ⊤
RiseFrom number (e ∷ list) = (number < e.seq) × RiseFrom e.seq list

-- A number that an entry may have: at least 1, and at most 18,446,744,073,709,551,615, the greatest of 64 bits.
abbrev pub IsEntryNumber : ℕ → Type 0
IsEntryNumber number = (1 ≤ number) × (number ≤ 18446744073709551615)

-- Each cell was touched by an entry.
abbrev pub AreTouched : CellsByPlace → Type 0
AreTouched cells = (place : CellPlace) (content : CellContent) → get cells place ≡ Some content
    → IsEntryNumber content.touched

-- Tables that are kept: the numbers of the entries are at least 1 and rise, and each cell has the number of an entry.
pub record AreKept (tables : KeptTables) : Type 0 where
  pub entries : RiseFrom 0 tables.entries
  pub cells : AreTouched tables.cells

-- ---- what is read of them

-- The number of an entry, or 0 if there is none.
abbrev pub entry_number : Option KeptEntry → ℕ
entry_number None = 0
entry_number (Some e) = e.seq

-- The number of the last entry, or 0 if there is none.
abbrev pub last_number : KeptTables → ℕ
last_number tables = entry_number (slice_get tables.entries (length tables.entries - 1))

-- The entries whose number is greater than the first number and at most the second.
abbrev pub entries_between : ℕ → ℕ → KeptTables → List KeptEntry
entries_between after upto tables = filter (λ e. nat_lt after e.seq && nat_le e.seq upto) tables.entries

-- A cell in its place.
abbrev pub cell_at : CellPlace × CellContent → KeptCell
cell_at ([], content) = record { kind = 0; name = []; touched = content.touched; row = content.row }
cell_at (kind ∷ name, content) = record
    { kind = kind; name = name; touched = content.touched; row = content.row }

-- The cells that such an entry touched last, in the order of their places.
abbrev pub cells_between : ℕ → ℕ → KeptTables → List KeptCell
cells_between after upto tables =
    filter (λ cell. nat_lt after cell.touched && nat_le cell.touched upto)
    (map cell_at (entries tables.cells))

-- ---- what is committed

-- A cell of a batch: the batch's entry touched it, and its name is ASCII.
abbrev pub IsCellOf : ℕ → KeptCell → Type 0
IsCellOf number cell = (cell.touched ≡ number) × IsAscii cell.name

-- No two cells have the same place.
abbrev pub HaveOwnPlaces : List KeptCell → Type 0
HaveOwnPlaces [] = ⊤
HaveOwnPlaces (cell ∷ list) = AllByRecursion (λ other. cell_place other ≢ cell_place cell) list × HaveOwnPlaces list

-- A batch that may be committed. The number of its entry is at most 9,223,372,036,854,775,807, which a store has room
-- for. Its cells are cells of this entry, each in its own place. The texts that name something are ASCII.
pub record IsBatch (batch : Batch) : Type 0 where
  pub number : batch.entry.seq ≤ 9223372036854775807
  pub office : IsAscii batch.entry.office
  pub cells : AllByRecursion (IsCellOf batch.entry.seq) batch.cells
  pub apart : HaveOwnPlaces batch.cells

-- If the tables are told, the batch's entry has the number that follows the last.
abbrev pub IsNextOf : Option KeptTables → Batch → Type 0
IsNextOf told batch = IfSome told (λ tables. batch.entry.seq ≡ last_number tables + 1)
