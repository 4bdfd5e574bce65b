-- What transactions leave.
use Rattle.std.specs.Prelude.{◌≡◌, ◌≤◌, ◌⊎◌, [], true, false, Option, Some, Result, OnOk, OnErr, IsTrue}
use Rattle.sqlite_trees.specs.View.{doubt}
use Rattle.sqlite.specs.State.{State, HasCleanDisk}
use Rattle.lei_values.specs.KeptTables.{KeptTables, with_batch}
use Rattle.lei_values.specs.declared.batch.Batch.{Batch}
use Rattle.sqlite_trees.specs.Tree.{Trees}
use Rattle.store_tables.specs.Calls.{HasNextNumber, IsMade, IsSeen, IsWholeStore, TellsTables}
use Rattle.store_tables.specs.Crash.{MayBeFound}
use Rattle.store_tables.specs.Told.{says_second, told_in_trees}
use Rattle.keeper_sqlite.specs.declared.over.Form.{Form}

-- The batch was committed: the told tables are now told with the batch, if its entry is the next.
pub record HasKept (batch : Batch) (old new : State) : Type 0 where
  pub was_open : IsTrue old.is_open
  pub is_open : IsTrue new.is_open
  pub settled : new.now ≡ new.committed
  pub told : (t : KeptTables) → HasNextNumber batch.entry t → TellsTables old.now.schema old.now.trees t
      → TellsTables new.now.schema new.now.trees (with_batch batch t)

-- The tables were made, which doesn't change what is told.
pub record HasMade (old new : State) : Type 0 where
  pub was_open : IsTrue old.is_open
  pub whole : IsWholeStore new
  pub told : told_in_trees new.now.schema new.now.trees ≡ told_in_trees old.now.schema old.now.trees

-- The cells were moved to form 2, which doesn't change what is told.
pub record HasMoved (old new : State) : Type 0 where
  pub was_open : IsTrue old.is_open
  pub told : (t : KeptTables) → told_in_trees old.now.schema old.now.trees ≡ Some t
      → told_in_trees new.now.schema new.now.trees ≡ Some t

-- What is committed by a transaction that moves a store of form 1 with all four tables.
abbrev pub IsMoved : State → Trees → Type 0
IsMoved s trees = IsWholeStore s → s.now.trees 4 ≡ [] → IsMade s trees

-- An open connection between transactions has all four tables, and the table of the form says this form.
pub record HasForm (s : State) (form : Form) : Type 0 where
  pub whole : IsWholeStore s
  pub first : form ≡ Form.First → s.now.trees 4 ≡ []
  pub second : form ≡ Form.Second → says_second (s.now.trees 4) ≡ true

-- A crash may leave the tables with a batch.
abbrev pub MayKeep : Batch → State → Option KeptTables → Type 0
MayKeep batch s left = IsTrue s.is_open
    × ((t : KeptTables) → HasNextNumber batch.entry t → told_in_trees s.now.schema s.now.trees ≡ Some t
    → left ≡ Some (with_batch batch t))

-- How a call that commits a batch ends, between transactions. Either the tables are told with the batch, and a crash
-- leaves these. Or they are as they were, and a crash may leave what it might have left before, or the tables with the
-- batch.
pub record EndsCommit {E : Type 0} (batch : Batch) (result : Result (Unit {0}) E) (old new : State) : Type 0 where
  pub clean : doubt old.is_clean ≤ doubt new.is_clean
  pub mode : old.in_transaction ≡ false → new.in_transaction ≡ false
  pub was_open : HasCleanDisk new → IsTrue new.is_open → IsTrue old.is_open
  pub kept : HasCleanDisk new
      → OnOk result (IsTrue new.is_open
      × ((t : KeptTables) → HasNextNumber batch.entry t → told_in_trees old.now.schema old.now.trees ≡ Some t
      → (told_in_trees new.now.schema new.now.trees ≡ Some (with_batch batch t))
      × ((left : Option KeptTables) → MayBeFound new left → left ≡ Some (with_batch batch t))))
  pub undone : HasCleanDisk new
      → OnErr result (IsTrue new.is_open → (t : KeptTables) → told_in_trees old.now.schema old.now.trees ≡ Some t
      → told_in_trees new.now.schema new.now.trees ≡ Some t)
  pub crash : HasCleanDisk new → (left : Option KeptTables) → MayBeFound new left
      → MayBeFound old left ⊎ (IsSeen old left ⊎ MayKeep batch old left)
