-- What a transaction leaves, whether it is committed or rolled back.
use Rattle.std.proofs.Common.{◌≡◌, ◌⊎◌, inl, inr, false, Option, Some, IsTrue, sym, ap, ◌∙◌, true≢false}
use Rattle.sqlite_trees.specs.Tree.{Trees}
use Rattle.sqlite.specs.declared.error.Error.{Error}
use Rattle.sqlite.specs.Effect.{Database}
use Rattle.sqlite.specs.Steps.{FailsToCommit}
use Rattle.sqlite.specs.State.{State, HasCleanDisk, IsRolledBack, KeepsCommit, Survives}
use Rattle.lei_values.specs.KeptTables.{KeptTables}
use Rattle.store_tables.specs.Calls.{IsInside, IsMade, IsSeen, IsSteady, IsUndone}
use Rattle.store_tables.specs.Crash.{MayBeFound}
use Rattle.store_tables.specs.Told.{told_in_trees}
use Rattle.store_tables.proofs.CrashLemmas.{one_schema}

pub undone_by : (old mid new : State) → KeepsCommit old mid → IsRolledBack mid new → IsUndone old new
undone_by old mid new kept back = record {
  was_open = λ live. kept.was_open (back.was_open live);
  now = λ live. (back.undone live).0 ∙ kept.committed (back.was_open live);
}

-- inside a transaction a commit that fails rolls it back
pub failed_undone : (old mid new : State) (e : Error) → IsInside old mid → FailsToCommit mid new e
    → IsUndone old new
failed_undone old mid new e inside (inl fails) =
    undone_by old mid new (record { was_open = λ _. inside.was_open; committed = λ _. inside.committed })
    fails.3
failed_undone old mid new e inside (inr (is, ended, same)) = absurd (true≢false (sym inside.mode ∙ ended))

-- Between transactions the state after a rollback is the state before.
pub undone_now : (old new : State) → (IsTrue old.is_open → old.now ≡ old.committed) → IsUndone old new
    → IsTrue new.is_open → new.now ≡ old.now
undone_now old new settled undone live = undone.now live ∙ sym (settled (undone.was_open live))

undone_told : (old new : State) → (IsTrue old.is_open → old.now ≡ old.committed) → IsUndone old new
    → IsTrue new.is_open
    → told_in_trees new.now.schema new.now.trees ≡ told_in_trees old.now.schema old.now.trees
undone_told old new settled undone live = ap (λ (d : Database). told_in_trees d.schema d.trees)
    (undone_now old new settled undone live)

made_seen : (old new : State) (left : Option KeptTables)
    → ((db : Trees) → new.may_leave db → old.may_leave db ⊎ IsMade old db) → MayBeFound new left
    → MayBeFound old left ⊎ IsSeen old left
made_seen old new left crash found = elim (crash found.0 found.2) [
  | inl was ↦ inl (found.0, found.1, was, found.3, found.4)
  | inr made ↦ inr (
    made.0,
    λ t told. let it = made.1 t told in
        found.4 ∙ (ap (λ s. told_in_trees s found.0) (one_schema found.1 it.0 found.0 found.3 it.1) ∙ it.2),
  )
]

-- A transaction that was rolled back, or that was committed and didn't change what is told.
pub made_steady : (old new : State) → (HasCleanDisk new → IsTrue old.is_open → old.now ≡ old.committed)
    → (old.in_transaction ≡ false → new.in_transaction ≡ false)
    → (HasCleanDisk new → IsUndone old new
    ⊎ (IsTrue old.is_open × ((t : KeptTables) → told_in_trees old.now.schema old.now.trees ≡ Some t
    → told_in_trees new.now.schema new.now.trees ≡ Some t))) → Survives old new (IsMade old) → IsSteady old new
made_steady old new settled mode went survives = record {
  clean = survives.clean;
  mode = mode;
  was_open = λ clean live. elim (went clean) [ inl undone ↦ undone.was_open live | inr made ↦ made.0 ];
  told = λ clean live t was. elim (went clean) [
    | inl undone ↦ undone_told old new (settled clean) undone live ∙ was
    | inr made ↦ made.1 t was
  ];
  crash = λ clean left found. made_seen old new left (survives.crash clean) found;
}

-- a part of a transaction that continued, and then one that kept the commit
pub keeps_then : (a b c : State) → IsInside a b → KeepsCommit b c → KeepsCommit a c
keeps_then a b c inside kept = record
    { was_open = λ _. inside.was_open; committed = λ live. kept.committed live ∙ inside.committed }
