-- What a query leaves of a connection.
use Rattle.std.proofs.Common.{◌≡◌, ◌⊎◌, inl, inr, ℕ, false, List, Ok, Err, Result, IfOk, IfErr, IsTrue, sym, ap, subst, ◌∙◌, arith}
use Rattle.sqlite_value.specs.Order.{Row}
use Rattle.sqlite_trees.specs.Tree.{Trees}
use Rattle.sqlite.specs.declared.error.Error.{Error}
use Rattle.sqlite.specs.Effect.{Database}
use Rattle.sqlite.specs.Clock.{timed}
use Rattle.sqlite.specs.Listing.{understood}
use Rattle.sqlite.specs.State.{State, CommitsShowing, FailsToQuery, FailsToShow, HasCleanDisk, IsNotRun, IsRolledBack, IsUnchanged, Shown, ShowsRows, Survives}
use Rattle.sqlite.proofs.Callers.{IsPlain, never_commits}
use Rattle.store_tables.specs.Calls.{IsSteady}
use Rattle.store_tables.specs.Told.{told_in_trees}

abbrev pub Rests : State → State → Type 0
Rests old new = IsUnchanged old new ⊎ IsRolledBack old new

pub shown_unchanged : (sql : List ℕ) (params : Row) (old new : State) (rows : List Row)
    → IsPlain (understood old.now.schema sql) → Shown sql params old new rows → IsUnchanged old new
unfolding Shown
shown_unchanged sql params old new rows plain h =
    let none = (subst IsPlain h.1.is plain).0 in
    let it = subst (ShowsRows old new sql h.0 (timed params h.0.formats h.1.now) rows) none h.2 in
    it.3

not_run_rests : (sql : List ℕ) (params : Row) (old new : State) (e : Error) → IsNotRun old new sql params e
    → Rests old new
unfolding IsNotRun
not_run_rests sql params old new e (inl h) = inl h.1
not_run_rests sql params old new e (inr h) = inr h.3

failed_rests : (sql : List ℕ) (params : Row) (old new : State) (e : Error)
    → IsPlain (understood old.now.schema sql) → FailsToQuery sql params old new e → Rests old new
unfolding FailsToQuery
failed_rests sql params old new e plain (inl h) = not_run_rests sql params old new e h
failed_rests sql params old new e plain (inr h) =
    let none = (subst IsPlain h.1.is plain).0 in
    let it = subst (FailsToShow old new sql h.0 (timed params h.0.formats h.1.now) e) none h.2 in
    inl it.3

pub query_rests : {X : Type 0} (sql : List ℕ) (params : Row) (old new : State) (show : X → List Row)
    (r : Result X Error) → IsPlain (understood old.now.schema sql)
    → IfOk r (λ rows. Shown sql params old new (show rows)) → IfErr r (FailsToQuery sql params old new)
    → Rests old new
query_rests sql params old new show (Ok rows) plain ok err = inl
    (shown_unchanged sql params old new (show rows) plain ok)
query_rests sql params old new show (Err e) plain ok err = failed_rests sql params old new e plain err

rests_open : (old new : State) → Rests old new → IsTrue new.is_open → IsTrue old.is_open
rests_open old new (inl same) live = same.0.was_open
rests_open old new (inr back) live = back.was_open live

rests_now : (old new : State) → (IsTrue old.is_open → old.now ≡ old.committed) → Rests old new
    → IsTrue new.is_open → new.now ≡ old.now
rests_now old new settled (inl same) live = same.0.now_is
rests_now old new settled (inr back) live = (back.undone live).0 ∙ sym (settled (back.was_open live))

-- A connection that rests between transactions is steady.
pub rests_steady : (old new : State) (P : Trees → Type 0)
    → (HasCleanDisk new → IsTrue old.is_open → old.now ≡ old.committed)
    → (old.in_transaction ≡ false → new.in_transaction ≡ false)
    → (HasCleanDisk new → Rests old new) → Survives old new P → (HasCleanDisk new → (db : Trees) → ¬ P db)
    → IsSteady old new
rests_steady old new P settled mode rests survives none = record {
  clean = survives.clean;
  mode = mode;
  was_open = λ clean live. rests_open old new (rests clean) live;
  told = λ clean live t was. ap (λ (d : Database). told_in_trees d.schema d.trees)
      (rests_now old new (settled clean) (rests clean) live) ∙ was;
  crash = λ clean left found. inl (elim (survives.crash clean found.0 found.2) [
    | inl was ↦ (found.0, found.1, was, found.3, found.4)
    | inr made ↦ absurd (none clean found.0 made)
  ]);
}

pub query_steady : {X : Type 0} (sql : List ℕ) (params : Row) (old new : State) (show : X → List Row)
    (r : Result X Error) → (HasCleanDisk new → IsTrue old.is_open → old.now ≡ old.committed)
    → (HasCleanDisk new → IsPlain (understood old.now.schema sql))
    → (old.in_transaction ≡ false → new.in_transaction ≡ false)
    → (HasCleanDisk new → IfOk r (λ rows. Shown sql params old new (show rows)))
    → (HasCleanDisk new → IfErr r (FailsToQuery sql params old new))
    → Survives old new (CommitsShowing sql params old) → IsSteady old new
query_steady sql params old new show r settled plain mode ok err survives =
    rests_steady old new (CommitsShowing sql params old) settled mode
    (λ clean. query_rests sql params old new show r (plain clean) (ok clean) (err clean)) survives
    (λ clean db. never_commits sql params old db (plain clean))

pub steady_then : (a b c : State) → IsSteady a b → IsSteady b c → IsSteady a c
steady_then a b c one two = record {
  clean = omega (arith, one.clean, two.clean);
  mode = λ h. two.mode (one.mode h);
  was_open = λ clean live. one.was_open (earlier clean) (two.was_open clean live);
  told = λ clean live t was. two.told clean live t (one.told (earlier clean) (two.was_open clean live) t was);
  crash = λ clean left found. elim (two.crash clean left found) [
    | inl mid ↦ one.crash (earlier clean) left mid
    | inr seen ↦ inr
        (one.was_open (earlier clean) seen.0, λ t was. seen.1 t (one.told (earlier clean) seen.0 t was))
  ];
}
  where
    earlier : HasCleanDisk c → HasCleanDisk b
    earlier clean = omega (arith, two.clean, clean)

pub steady_same : (s : State) → IsSteady s s
steady_same s = record {
  clean = omega arith;
  mode = λ h. h;
  was_open = λ clean live. live;
  told = λ clean live t was. was;
  crash = λ clean left found. inl found;
}
