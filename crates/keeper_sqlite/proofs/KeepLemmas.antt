-- How a call that commits a batch ends.
use Rattle.std.proofs.Common.{◌≡◌, ◌⊎◌, inl, inr, false, Option, Some, Ok, Err, Result, OnOk, OnErr, IsTrue, ap, ◌∙◌, arith}
use Rattle.sqlite_trees.specs.Tree.{Trees}
use Rattle.sqlite.specs.State.{State, HasCleanDisk, Survives}
use Rattle.sqlite.specs.Effect.{Database}
use Rattle.lei_values.specs.KeptTables.{KeptTables, with_batch}
use Rattle.lei_values.specs.declared.batch.Batch.{Batch}
use Rattle.store_tables.specs.Calls.{HasNextNumber, IsReadyStore, IsSeen, IsSteady, IsUndone, KeepsBatch, TellsTables}
use Rattle.store_tables.specs.Crash.{MayBeFound}
use Rattle.store_tables.specs.Told.{told_in_trees}
use Rattle.store_tables.proofs.CrashLemmas.{found_settled, kept_tells, tells_told, told_tells}
use Rattle.store_tables.proofs.TransactionLemmas.{undone_now}
use Rattle.keeper_sqlite.specs.Transactions.{EndsCommit, HasKept, MayKeep}

tells : (s : State) (t : KeptTables) → IsReadyStore s → IsTrue s.is_open
    → told_in_trees s.now.schema s.now.trees ≡ Some t → TellsTables s.now.schema s.now.trees t
tells s t ready live told =
    told_tells s.now.schema s.now.trees t ready.whole.schema (ready.whole.sound live) ready.second told

abbrev Law : State → Type 0
Law s = IsTrue s.is_open → (db : Trees) → s.may_leave db → db ≡ s.committed.trees

kept_ends : (batch : Batch) (old new : State) → IsReadyStore old → Law new → HasKept batch old new
    → (t : KeptTables) → HasNextNumber batch.entry t → told_in_trees old.now.schema old.now.trees ≡ Some t
    → (told_in_trees new.now.schema new.now.trees ≡ Some (with_batch batch t))
    × ((left : Option KeptTables) → MayBeFound new left → left ≡ Some (with_batch batch t))
kept_ends batch old new ready law kept t next told =
    let after = kept.told t next (tells old t ready kept.was_open told) in
    (tells_told new.now.schema new.now.trees _ after, found_settled new (with_batch batch t) (law kept.is_open) kept.settled after)

module _ (batch : Batch) (old new : State) (law : Law new) (survives : Survives old new (KeepsBatch batch old))
    (ready : HasCleanDisk old → IsReadyStore old) (mode : new.in_transaction ≡ false) where
  earlier : HasCleanDisk new → HasCleanDisk old
  earlier clean = omega (arith, survives.clean, clean)

  found : HasCleanDisk new → (left : Option KeptTables) → MayBeFound new left
      → MayBeFound old left ⊎ (IsSeen old left ⊎ MayKeep batch old left)
  found clean left it = elim (survives.crash clean it.0 it.2) [
    | inl was ↦ inl (it.0, it.1, was, it.3, it.4)
    | inr kept ↦ inr (inr (
      kept.0,
      λ t next told. kept_tells batch old it.0 it.1 left t kept it.3 it.4 next
          (tells old t (ready (earlier clean)) kept.0 told),
    ))
  ]

  pub keep_ends : {E : Type 0} (r : Result (Unit {0}) E) → (HasCleanDisk new → OnOk r (HasKept batch old new))
      → (HasCleanDisk new → OnErr r (IsUndone old new)) → EndsCommit batch r old new
  keep_ends (Ok x) kept undone = record {
    clean = survives.clean;
    mode = λ _. mode;
    was_open = λ clean live. (kept clean).was_open;
    kept = λ clean. ((kept clean).is_open, kept_ends batch old new (ready (earlier clean)) law (kept clean));
    undone = λ clean. tt;
    crash = found;
  }
  keep_ends (Err e) kept undone = record {
    clean = survives.clean;
    mode = λ _. mode;
    was_open = λ clean live. (undone clean).was_open live;
    kept = λ clean. tt;
    undone = λ clean live t was. ap (λ (d : Database). told_in_trees d.schema d.trees)
        (undone_now old new (ready (earlier clean)).whole.settled (undone clean) live) ∙ was;
    crash = found;
  }

pub on_ok : {X E : Type 0} (r : Result X E) (P Q : Type 0) → (P → Q) → OnOk r P → OnOk r Q
on_ok (Ok x) P Q then h = then h
on_ok (Err e) P Q then h = tt

pub on_err : {X E : Type 0} (r : Result X E) (P Q : Type 0) → (P → Q) → OnErr r P → OnErr r Q
on_err (Ok x) P Q then h = tt
on_err (Err e) P Q then h = then h

-- a call that was refused before it wrote
pub refused_ends : {E : Type 0} (batch : Batch) (e : E) (a b : State) → IsSteady a b → EndsCommit batch (Err e) a b
refused_ends batch e a b one = record {
  clean = one.clean;
  mode = one.mode;
  was_open = one.was_open;
  kept = λ clean. tt;
  undone = one.told;
  crash = λ clean left it. elim (one.crash clean left it) [ inl was ↦ inl was | inr seen ↦ inr (inl seen) ];
}

-- a steady call, and then one that commits
pub steady_ends : {E : Type 0} (batch : Batch) (r : Result (Unit {0}) E) (a b c : State) → IsSteady a b
    → EndsCommit batch r b c → EndsCommit batch r a c
steady_ends batch r a b c one two = record {
  clean = omega (arith, one.clean, two.clean);
  mode = λ h. two.mode (one.mode h);
  was_open = λ clean live. one.was_open (earlier clean) (two.was_open clean live);
  kept = λ clean. on_ok r _ _
      (λ kept. (
        kept.0,
        λ t next told. kept.1 t next
            (one.told (earlier clean) (two.was_open clean kept.0) t told),
      )) (two.kept clean);
  undone = λ clean. on_err r _ _ (λ same live t was. same live t (one.told (earlier clean) (two.was_open clean live) t was))
      (two.undone clean);
  crash = λ clean left it. elim (two.crash clean left it) [
    | inl found ↦ elim (one.crash (earlier clean) left found)
        [ inl was ↦ inl was | inr seen ↦ inr (inl seen) ]
    | inr (inl seen) ↦ inr (inl
        (one.was_open (earlier clean) seen.0, λ t was. seen.1 t (one.told (earlier clean) seen.0 t was)))
    | inr (inr may) ↦ inr (inr (
      one.was_open (earlier clean) may.0,
      λ t next told. may.1 t next (one.told (earlier clean) may.0 t told),
    ))
  ];
}
  where
    earlier : HasCleanDisk c → HasCleanDisk b
    earlier clean = omega (arith, two.clean, clean)
