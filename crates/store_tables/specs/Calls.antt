-- What the calls of a keeper do to a connection.
use Rattle.std.specs.Prelude.{◌≡◌, ◌≤◌, ◌⊎◌, ◌&&◌, ◌+◌, ◌-◌, ℤ, Bool, List, ◌∷◌, ◌++◌, [], length, map, option_map, slice_get, take, pos, true, false, Option, Some, None, IsTrue}
use Rattle.std.specs.List.{list_all}
use Rattle.std.specs.FinMap.{empty}
use Rattle.sqlite_value.specs.declared.value.Value.TheVariants.{Int}
use Rattle.sqlite_value.specs.Order.{Row, column}
use Rattle.sqlite_trees.specs.Tree.{Trees}
use Rattle.sqlite_trees.specs.View.{doubt}
use Rattle.sqlite_schema.specs.declared.schema.Schema.{Schema}
use Rattle.sqlite_rules.specs.Edit.{id_in}
use Rattle.sqlite_catalog.specs.Listing.{IsSound}
use Rattle.sqlite.specs.Effect.{Database, IsDatabase}
use Rattle.sqlite.specs.State.{State, HasCleanDisk}
use Rattle.lei_values.specs.KeptTables.{KeptTables, last_number, put_cell, put_cells, with_batch}
use Rattle.lei_values.specs.declared.entry.KeptEntry.{KeptEntry}
use Rattle.lei_values.specs.declared.batch.Batch.{Batch}
use Rattle.lei_values.specs.declared.cell.KeptCell.{KeptCell}
use Rattle.store_statements.specs.Schemas.{both_schema, entry_schema, no_schema, store_schema, whole_schema}
use Rattle.store_tables.specs.Crash.{MayBeFound}
use Rattle.store_tables.specs.Stored.{cell_in_row, form_1, form_2, is_cell, second_row}
use Rattle.store_tables.specs.Told.{rise, says_second, told_as, told_in_trees}

-- The entries and the cells of form 2 of a sound store with all four tables are these, whatever its form is.
pub record HoldsTables (schema : Schema) (trees : Trees) (t : KeptTables) : Type 0 where
  pub whole : schema ≡ whole_schema
  pub sound : IsSound schema trees
  pub told : told_as form_2 (trees 0) (trees 5) ≡ Some t

-- A sound store of form 2, which tells these.
pub record TellsTables (schema : Schema) (trees : Trees) (t : KeptTables) : Type 0 where
  pub holds : HoldsTables schema trees t
  pub second : says_second (trees 4) ≡ true
  pub emptied : trees 1 ≡ []

-- A sound store of form 1 with all four tables, which tells these.
pub record TellsFirst (schema : Schema) (trees : Trees) (t : KeptTables) : Type 0 where
  pub whole : schema ≡ whole_schema
  pub sound : IsSound schema trees
  pub told : told_as form_1 (trees 0) (trees 1) ≡ Some t
  pub form : trees 4 ≡ []
  pub none : trees 5 ≡ []

-- An open connection between transactions has all four tables, and all of it is committed.
pub record IsWholeStore (s : State) : Type 0 where
  pub schema : s.now.schema ≡ whole_schema
  pub settled : IsTrue s.is_open → s.now ≡ s.committed
  pub sound : IsTrue s.is_open → IsDatabase s.now

-- And its form is form 2.
pub record IsReadyStore (s : State) : Type 0 where
  pub whole : IsWholeStore s
  pub second : says_second (s.now.trees 4) ≡ true

-- What an open connection would tell of the trees that it sees, if they tell anything.
abbrev pub IsSeen : State → Option KeptTables → Type 0
IsSeen s left = IsTrue s.is_open
    × ((t : KeptTables) → told_in_trees s.now.schema s.now.trees ≡ Some t → left ≡ Some t)

-- Between transactions a call doesn't change what is told, if anything is, and adds nothing to what a crash may leave.
pub record IsSteady (old new : State) : Type 0 where
  pub clean : doubt old.is_clean ≤ doubt new.is_clean
  pub mode : old.in_transaction ≡ false → new.in_transaction ≡ false
  pub was_open : HasCleanDisk new → IsTrue new.is_open → IsTrue old.is_open
  pub told : HasCleanDisk new → IsTrue new.is_open → (t : KeptTables)
      → told_in_trees old.now.schema old.now.trees ≡ Some t
      → told_in_trees new.now.schema new.now.trees ≡ Some t
  pub crash : HasCleanDisk new → (left : Option KeptTables) → MayBeFound new left
      → MayBeFound old left ⊎ IsSeen old left

-- Inside a transaction nothing is committed.
pub record IsInside (old new : State) : Type 0 where
  pub was_open : IsTrue old.is_open
  pub is_open : IsTrue new.is_open
  pub committed : new.committed ≡ old.committed
  pub mode : IsTrue new.in_transaction

-- The tables of the form and of the cells of form 1 are as they were.
abbrev pub KeepsForm : Trees → Trees → Type 0
KeepsForm old new = (new 1 ≡ old 1) × (new 4 ≡ old 4)

-- Inside a transaction the entries and the cells of form 2 become what this function makes of them, if a condition
-- holds for them.
pub record ChangesTables (change : KeptTables → KeptTables) (Fits : KeptTables → Type 0) (old new : State) : Type 0
  where
    pub inside : IsInside old new
    pub holds : (t : KeptTables) → Fits t → HoldsTables old.now.schema old.now.trees t
        → HoldsTables new.now.schema new.now.trees (change t) × KeepsForm old.now.trees new.now.trees

-- The tables with an entry added after the others.
abbrev pub tables_with_entry : KeptEntry → KeptTables → KeptTables
tables_with_entry e t = record { entries = t.entries ++ e ∷ []; cells = t.cells }

-- The tables with a cell in its place.
abbrev pub tables_with_cell : KeptCell → KeptTables → KeptTables
tables_with_cell c t = record { entries = t.entries; cells = put_cell t.cells c }

-- The tables with these cells in their places.
abbrev pub with_cells : List KeptCell → KeptTables → KeptTables
with_cells list t = record { entries = t.entries; cells = put_cells t.cells list }

-- An entry has the number that follows the last.
abbrev pub HasNextNumber : KeptEntry → KeptTables → Type 0
HasNextNumber e t = e.seq ≡ last_number t + 1

-- What the transaction of a batch commits.
abbrev pub KeepsBatch : Batch → State → Trees → Type 0
KeepsBatch batch s trees =
    IsTrue s.is_open × ((t : KeptTables) → HasNextNumber batch.entry t → TellsTables s.now.schema s.now.trees t
    → (schema : Schema) × TellsTables schema trees (with_batch batch t))

-- The row with an entry's number, or no row if there is no entry.
abbrev pub number_row : Option KeptEntry → List Row
number_row None = []
number_row (Some e) = (Int (pos e.seq) ∷ []) ∷ []

-- The row with the last entry's number.
abbrev pub last_rows : KeptTables → List Row
last_rows t = number_row (slice_get t.entries (length t.entries - 1))

-- ---- the making of the tables

-- Not all tables are made yet.
abbrev pub IsNewSchema : Schema → Type 0
IsNewSchema schema = (schema ≡ no_schema) ⊎ (schema ≡ entry_schema)

-- The tables of form 1 are made, and perhaps the table of the form.
abbrev pub IsFirst : Schema → Type 0
IsFirst schema = (schema ≡ both_schema) ⊎ (schema ≡ store_schema)

-- Inside a transaction tables are made, which doesn't change what is told.
pub record Makes (after : Schema) (old new : State) : Type 0 where
  pub inside : IsInside old new
  pub schema : new.now.schema ≡ after
  pub told : told_in_trees new.now.schema new.now.trees ≡ told_in_trees old.now.schema old.now.trees

-- What is committed by a transaction that doesn't change what is told, if anything is.
abbrev pub IsMade : State → Trees → Type 0
IsMade s trees =
    IsTrue s.is_open × ((t : KeptTables) → told_in_trees s.now.schema s.now.trees ≡ Some t
    → (schema : Schema) × IsSound schema trees × (told_in_trees schema trees ≡ Some t))

-- A transaction was rolled back.
pub record IsUndone (old new : State) : Type 0 where
  pub was_open : IsTrue new.is_open → IsTrue old.is_open
  pub now : IsTrue new.is_open → new.now ≡ old.committed

-- ---- the form

-- A call read what the table of the form has, and changed nothing.
pub record ReadsForm (old new : State) (rows : List Row) : Type 0 where
  pub was_open : IsTrue old.is_open
  pub now : new.now ≡ old.now
  pub committed : new.committed ≡ old.committed
  pub none : rows ≡ [] → new.now.trees 4 ≡ []
  pub second : rows ≡ second_row ∷ [] → says_second (new.now.trees 4) ≡ true

-- Inside a transaction the form is written, if there is neither a form nor a cell of form 1.
pub record Forms (old new : State) : Type 0 where
  pub inside : IsInside old new
  pub told : (t : KeptTables) → HoldsTables old.now.schema old.now.trees t → old.now.trees 4 ≡ []
      → old.now.trees 1 ≡ [] → TellsTables new.now.schema new.now.trees t

-- ---- the move from form 1 to form 2

-- The rows are those of cells of form 1, in the order of their ids.
abbrev pub AreFirst : List Row → Type 0
AreFirst rows = (rise rows && list_all (is_cell form_1) rows) ≡ true

-- The id of the last row.
abbrev pub last_id : List Row → Option ℤ
last_id rows = option_map (λ r. id_in (column r 0)) (slice_get rows (length rows - 1))

-- Inside a transaction a page of the cells of form 1 is read.
pub record ReadsPage (old new : State) (rows : List Row) : Type 0 where
  pub inside : IsInside old new
  pub now : old.now.schema ≡ whole_schema → new.now ≡ old.now
  pub page : old.now.schema ≡ whole_schema → AreFirst (old.now.trees 1) → rows ≡ take 100 (old.now.trees 1)

-- Inside a transaction the first cells of form 1 are removed, up to this id.
pub record Clears (last : ℤ) (old new : State) : Type 0 where
  pub inside : IsInside old new
  pub left : (page rest : List Row) → old.now.schema ≡ whole_schema → AreFirst (page ++ rest)
      → old.now.trees 1 ≡ page ++ rest → last_id page ≡ Some last
      → (new.now.trees 1 ≡ rest) × (new.now.trees 4 ≡ old.now.trees 4)
  pub holds : (t : KeptTables) → HoldsTables old.now.schema old.now.trees t
      → HoldsTables new.now.schema new.now.trees t

-- Of the cells of form 1 at the start, the first are in form 2, and the others are still in form 1.
pub record Carried (before : Trees) (now : Database) (t : KeptTables) : Type 0 where
  pub are : AreFirst (before 1)
  pub front : List Row
  pub rest : List Row
  pub rows : before 1 ≡ front ++ rest
  pub left : now.trees 1 ≡ rest
  pub form : now.trees 4 ≡ []
  pub holds : HoldsTables now.schema now.trees
      (record { entries = t.entries; cells = put_cells empty (map cell_in_row front) })

-- Inside a transaction a page of cells of form 1 that was read is moved.
pub record MovesPage (page : List Row) (last : ℤ) (old new : State) : Type 0 where
  pub inside : IsInside old new
  pub carried : (before : Trees) (t : KeptTables) → Carried before old.now t
      → page ≡ take 100 (old.now.trees 1) → last_id page ≡ Some last → Carried before new.now t

-- Inside a transaction cells of form 1 are moved. If the result says that no more are left, none is.
pub record Carries (old new : State) (more : Bool) : Type 0 where
  pub inside : IsInside old new
  pub carried : (before : Trees) (t : KeptTables) → Carried before old.now t → Carried before new.now t
  pub done : (before : Trees) (t : KeptTables) → Carried before old.now t → more ≡ false
      → new.now.trees 1 ≡ []

-- Inside a transaction the cells are moved to form 2.
pub record Moves (old new : State) : Type 0 where
  pub inside : IsInside old new
  pub told : (t : KeptTables) → TellsFirst old.now.schema old.now.trees t
      → TellsTables new.now.schema new.now.trees t
