-- What a query leaves of the transaction that it runs in.
use Rattle.std.proofs.Common.{◌⊎◌, inl, inr, ℕ, List, None, Some, Option, Ok, Err, Result, IfOk, IfErr, IsTrue, ◌∙◌}
use Rattle.sqlite_value.specs.Order.{Row}
use Rattle.sqlite_schema.specs.declared.command.Returning.{Returning}
use Rattle.sqlite_resolve.specs.declared.compiled.Compiled.{Compiled}
use Rattle.sqlite.specs.declared.error.Error.{Error}
use Rattle.sqlite.specs.Clock.{timed}
use Rattle.sqlite.specs.State.{State, FailsToQuery, FailsToShow, IsNotRun, IsRolledBack, IsTooLate, IsUnchanged, KeepsCommit, Shown, ShowsRows}
use Rattle.store_tables.specs.Calls.{IsInside}

unchanged_inside : (old new : State) → IsTrue old.in_transaction → IsUnchanged old new → IsInside old new
unchanged_inside old new inside same = record {
  was_open = same.0.was_open;
  is_open = same.0.is_open;
  committed = same.0.committed_is;
  mode = same.0.mode ∙ inside;
}

pub inside_keeps : (old new : State) → IsInside old new → KeepsCommit old new
inside_keeps old new inside = record { was_open = λ _. inside.was_open; committed = λ _. inside.committed }

unchanged_keeps : (old new : State) → IsUnchanged old new → KeepsCommit old new
unchanged_keeps old new same = record
    { was_open = λ _. same.0.was_open; committed = λ _. same.0.committed_is }

back_keeps : (old new : State) → IsRolledBack old new → KeepsCommit old new
back_keeps old new back = record { was_open = back.was_open; committed = λ live. (back.undone live).1 }

shows_inside : (sql : List ℕ) (params : Row) (old new : State) (rows : List Row) (c : Compiled)
    (o : Option Returning) → IsTrue old.in_transaction → ShowsRows old new sql c params rows o
    → IsInside old new
shows_inside sql params old new rows c None inside it = unchanged_inside old new inside it.3
shows_inside sql params old new rows c (Some what) inside it =
    let shown = it.1.shown in
    record {
      was_open = shown.was_open;
      is_open = shown.is_open;
      committed = rw inside at shown.committed_is;
      mode = shown.mode ∙ inside;
    }

pub shown_inside : (sql : List ℕ) (params : Row) (old new : State) (rows : List Row)
    → IsTrue old.in_transaction → Shown sql params old new rows → IsInside old new
unfolding Shown
shown_inside sql params old new rows inside h =
    shows_inside sql (timed params h.0.formats h.1.now) old new rows h.0 h.0.returning inside h.2

fails_keeps : (sql : List ℕ) (params : Row) (old new : State) (e : Error) (c : Compiled)
    (o : Option Returning) → FailsToShow old new sql c params e o → KeepsCommit old new
fails_keeps sql params old new e c None it = unchanged_keeps old new it.3
fails_keeps sql params old new e c (Some what) (inl it) = unchanged_keeps old new it.1
fails_keeps sql params old new e c (Some what) (inr it) = back_keeps old new it.3

not_run_keeps : (sql : List ℕ) (params : Row) (old new : State) (e : Error) → IsNotRun old new sql params e
    → KeepsCommit old new
unfolding IsNotRun
not_run_keeps sql params old new e (inl it) = unchanged_keeps old new it.1
not_run_keeps sql params old new e (inr it) = back_keeps old new it.3

failed_keeps : (sql : List ℕ) (params : Row) (old new : State) (e : Error)
    → FailsToQuery sql params old new e ⊎ IsTooLate sql params old new e → KeepsCommit old new
unfolding FailsToQuery
failed_keeps sql params old new e (inl (inl it)) = not_run_keeps sql params old new e it
failed_keeps sql params old new e (inl (inr it)) = fails_keeps sql _ old new e it.0 it.0.returning it.2
failed_keeps sql params old new e (inr it) = unchanged_keeps old new it.5

-- A query inside a transaction commits nothing, even if it fails.
pub query_keeps : {X : Type 0} (sql : List ℕ) (params : Row) (old new : State) (show : X → List Row)
    (r : Result X Error) → IsTrue old.in_transaction
    → IfOk r (λ rows. Shown sql params old new (show rows))
    → IfErr r (λ e. FailsToQuery sql params old new e ⊎ IsTooLate sql params old new e) → KeepsCommit old new
query_keeps sql params old new show (Ok rows) inside ok err =
    inside_keeps old new (shown_inside sql params old new (show rows) inside ok)
query_keeps sql params old new show (Err e) inside ok err = failed_keeps sql params old new e err
