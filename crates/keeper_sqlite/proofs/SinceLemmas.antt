-- What a keeper tells, after it adopted its connection.
use Rattle.std.proofs.Common.{◌≡◌, ◌⊎◌, inl, inr, Bool, true, false, not, cond, Option, Some, None, is_some, IfSome, Ok, Err, Result, OnOk, IsTrue, refl, sym, ap, subst, ◌∙◌, arith, true≢false}
use Rattle.sqlite_trees.proofs.Doubt.{clean_of, no_doubt}
use Rattle.sqlite.specs.State.{State, HasCleanDisk}
use Rattle.lei_values.specs.KeptTables.{IsNextOf, KeptTables, with_batch}
use Rattle.lei_keeper.specs.Keeping.{Becomes, CommitLeaves, Commits, LeavesEither, LeavesNoMore, TablesStay}
use Rattle.lei_values.specs.declared.batch.Batch.{Batch}
use Rattle.store_tables.specs.Calls.{HasNextNumber, IsSeen, IsSteady}
use Rattle.store_tables.specs.Crash.{leaves_in}
use Rattle.store_tables.specs.Told.{is_settled, told_in, told_in_trees}
use Rattle.store_tables.proofs.SameLemmas.{both_of, left_of, right_of}
use Rattle.keeper_sqlite.specs.Keepers.{KeepsOn, leaves_since, told_since}
use Rattle.keeper_sqlite.specs.Transactions.{EndsCommit}

record Settled (s : State) : Type 0 where
  pub clean : HasCleanDisk s
  pub live : IsTrue s.is_open
  pub mode : s.in_transaction ≡ false

not_true : (b : Bool) → not b ≡ true → b ≡ false
not_true true h = absurd (cc)
not_true false h = refl

settled_is : (s : State) → is_settled s ≡ true → Settled s
settled_is s h = record {
  clean = no_doubt s.is_clean (left_of _ _ h);
  live = left_of _ _ (right_of _ _ h);
  mode = not_true _ (right_of _ _ (right_of _ _ h));
}

settled_back : (s : State) → HasCleanDisk s → IsTrue s.is_open → s.in_transaction ≡ false
    → is_settled s ≡ true
settled_back s clean live mode = both_of _ _ (clean_of s.is_clean clean) (both_of _ _ live (ap not mode))

cond_some : (b : Bool) (o : Option KeptTables) (t : KeptTables) → cond b o None ≡ Some t
    → (b ≡ true) × (o ≡ Some t)
cond_some true o t h = (refl, h)
cond_some false o t h = absurd (cc)

told_is : (s : State) (t : KeptTables) → told_in s ≡ Some t
    → Settled s × (told_in_trees s.now.schema s.now.trees ≡ Some t)
told_is s t h = let it = cond_some (is_settled s) _ t h in (settled_is s it.0, it.1)

told_now : (s : State) → HasCleanDisk s → IsTrue s.is_open → s.in_transaction ≡ false
    → told_in s ≡ told_in_trees s.now.schema s.now.trees
told_now s clean live mode = ap (λ b. cond b (told_in_trees s.now.schema s.now.trees) None)
    (settled_back s clean live mode)

some_of : (o : Option KeptTables) → IsTrue (is_some o) → (t : KeptTables) × (o ≡ Some t)
some_of None h = absurd (cc)
some_of (Some t) h = (t, refl)

is_some_of : (o : Option KeptTables) (t : KeptTables) → o ≡ Some t → IsTrue (is_some o)
is_some_of o t e = ap is_some e

one_some : (s t : KeptTables) → ◌≡◌ {A = Option KeptTables} (Some s) (Some t) → s ≡ t
one_some s t e = cc

-- ---- if the connection told its tables

module _ (adopted old new : State) (was : IsTrue (is_some (told_in adopted))) (on : KeepsOn adopted old) where
  -- what an open connection with a clean disk told
  told_old : HasCleanDisk old → IsTrue old.is_open
      → (t : KeptTables) × (told_in old ≡ Some t) × (told_in_trees old.now.schema old.now.trees ≡ Some t)
  told_old clean live =
      let it = some_of (told_in old) (on.told was clean live) in
      (it.0, it.1, sym (told_now old clean live (on.mode was)) ∙ it.1)

  seen_told : HasCleanDisk old → (left : Option KeptTables) → IsSeen old left → leaves_in old left
  seen_told clean left seen =
      let it = told_old clean seen.0 in
      let is : left ≡ Some it.0 = seen.1 it.0 it.2 in
      (clean, inl (ap is_some is, is ∙ sym it.1))

module _ (adopted old new : State) (on : KeepsOn adopted old) (one : IsSteady old new) where
  earlier : HasCleanDisk new → HasCleanDisk old
  earlier clean = omega (arith, one.clean, clean)

  pub steady_on : KeepsOn adopted new
  steady_on = record {
    mode = λ was. one.mode (on.mode was);
    told = λ was clean live.
        let it = told_old adopted old new was on (earlier clean) (one.was_open clean live) in
        is_some_of (told_in new) it.0
        (told_now new clean live (one.mode (on.mode was)) ∙ one.told clean live it.0 it.2);
  }

  -- what is told was told before
  same_told : IsTrue (is_some (told_in adopted)) → (t : KeptTables) → told_in new ≡ Some t
      → told_in old ≡ Some t
  same_told was t told =
      let it = told_is new t told in
      let before = told_old adopted old new was on (earlier it.0.clean) (one.was_open it.0.clean it.0.live) in
      before.1 ∙ (sym (one.told it.0.clean it.0.live before.0 before.2) ∙ it.1)

  leaves_before : IsTrue (is_some (told_in adopted)) → (left : Option KeptTables) → leaves_in new left
      → leaves_in old left
  leaves_before was left (clean, inl told) =
      let it = some_of left told.0 in
      let same = same_told was it.0 (sym told.1 ∙ it.1) in
      (earlier clean, inl (told.0, it.1 ∙ sym same))
  leaves_before was left (clean, inr found) = elim (one.crash clean left found) [
    | inl before ↦ (earlier clean, inr before)
    | inr seen ↦ seen_told adopted old new was on (earlier clean) left seen
  ]

stays_by : (a b : Option KeptTables) → ((t : KeptTables) → b ≡ Some t → a ≡ Some t) → TablesStay a b
stays_by None None same = tt
stays_by None (Some t) same = let e = same t refl in absurd (cc)
stays_by (Some s) None same = tt
stays_by (Some s) (Some t) same = one_some t s (sym (same t refl))

since_some : (b : Bool) (o : Option KeptTables) (t : KeptTables) → cond b o None ≡ Some t
    → (b ≡ true) × (o ≡ Some t)
since_some true o t h = (refl, h)
since_some false o t h = absurd (cc)

since_true : (b : Bool) (o : Option KeptTables) → b ≡ true → cond b o None ≡ o
since_true b o h = rw h refl

pub steady_stays : (adopted old new : State) → KeepsOn adopted old → IsSteady old new
    → TablesStay (told_since adopted old) (told_since adopted new)
steady_stays adopted old new on one = stays_by _ _ (λ t told.
    let it = since_some (is_some (told_in adopted)) (told_in new) t told in
    since_true (is_some (told_in adopted)) (told_in old) it.0 ∙ same_told adopted old new on one it.0 t it.1)

pub steady_leaves : (adopted old new : State) → KeepsOn adopted old → IsSteady old new
    → LeavesNoMore (leaves_since adopted old) (leaves_since adopted new)
steady_leaves adopted old new on one left after was = leaves_before adopted old new on one was left
    (after was)

-- the answer of a call about what is told afterwards
pub since_told : (adopted s : State) (t : KeptTables) → told_since adopted s ≡ Some t
    → HasCleanDisk s × (told_in_trees s.now.schema s.now.trees ≡ Some t)
since_told adopted s t told =
    let it = since_some (is_some (told_in adopted)) (told_in s) t told in
    let now = told_is s t it.1 in
    (now.0.clean, now.1)

-- ---- a commit

becomes_by : (change : KeptTables → KeptTables) (a b : Option KeptTables)
    → ((t : KeptTables) → b ≡ Some t → (s : KeptTables) × (a ≡ Some s) × (t ≡ change s)) → Becomes change a b
becomes_by change None None same = tt
becomes_by change None (Some t) same = let e = (same t refl).1 in absurd (cc)
becomes_by change (Some s) None same = tt
becomes_by change (Some s) (Some t) same = let it = same t refl in it.2
    ∙ ap change (one_some it.0 s (sym it.1))

pub told_by_is : (o : Option KeptTables) (P : KeptTables → Type 0) → ((t : KeptTables) → o ≡ Some t → P t)
    → IfSome o P
told_by_is None P each = tt
told_by_is (Some t) P each = each t refl

next_of : (o : Option KeptTables) (batch : Batch) (t : KeptTables) → IsNextOf o batch → o ≡ Some t
    → HasNextNumber batch.entry t
next_of None batch t next e = absurd (cc)
next_of (Some s) batch t next e = subst (HasNextNumber batch.entry) (one_some s t e) next

module _ {E : Type 0} (batch : Batch) (r : Result (Unit {0}) E) (adopted old new : State)
    (on : KeepsOn adopted old) (next : IsNextOf (told_since adopted old) batch) (it : EndsCommit batch r old new)
  where
    was_clean : HasCleanDisk new → HasCleanDisk old
    was_clean clean = omega (arith, it.clean, clean)

    next_is : IsTrue (is_some (told_in adopted)) → (t : KeptTables) → told_in old ≡ Some t
        → HasNextNumber batch.entry t
    next_is was t told = next_of (told_since adopted old) batch t next
        (since_true (is_some (told_in adopted)) (told_in old) was ∙ told)

    -- an open connection whose disk is clean told its tables, and the batch's entry is the next
    before : IsTrue (is_some (told_in adopted)) → HasCleanDisk new → IsTrue old.is_open
        → (t : KeptTables) × (told_in old ≡ Some t) × (told_in_trees old.now.schema old.now.trees ≡ Some t)
        × HasNextNumber batch.entry t
    before was clean live =
        let x = told_old adopted old new was on (was_clean clean) live in
        (x.0, x.1, x.2, next_is was x.0 x.1)

pub ends_on : {E : Type 0} (batch : Batch) (r : Result (Unit {0}) E) (adopted old new : State)
    → KeepsOn adopted old → IsNextOf (told_since adopted old) batch → EndsCommit batch r old new
    → KeepsOn adopted new
ends_on batch (Ok x) adopted old new on next it = record {
  mode = λ was. it.mode (on.mode was);
  told = λ was clean live.
      let t = before batch (Ok x) adopted old new on next it was clean (it.was_open clean live) in
      is_some_of (told_in new) (with_batch batch t.0)
      (told_now new clean live (it.mode (on.mode was)) ∙ ((it.kept clean).1 t.0 t.3 t.2).0);
}
ends_on batch (Err e) adopted old new on next it = record {
  mode = λ was. it.mode (on.mode was);
  told = λ was clean live.
      let t = before batch (Err e) adopted old new on next it was clean (it.was_open clean live) in
      is_some_of (told_in new) t.0
      (told_now new clean live (it.mode (on.mode was)) ∙ it.undone clean live t.0 t.2);
}

pub ends_commits : {E : Type 0} (batch : Batch) (r : Result (Unit {0}) E) (adopted old new : State)
    → KeepsOn adopted old → IsNextOf (told_since adopted old) batch → EndsCommit batch r old new
    → Commits batch r (told_since adopted old) (told_since adopted new)
ends_commits batch (Ok x) adopted old new on next it = becomes_by (with_batch batch) _ _ (λ t told.
    let since = since_some (is_some (told_in adopted)) (told_in new) t told in
    let now = told_is new t since.1 in
    let was = before batch (Ok x) adopted old new on next it since.0 now.0.clean
    (it.was_open now.0.clean now.0.live) in (
      was.0,
      since_true (is_some (told_in adopted)) (told_in old) since.0
          ∙ was.1,
      one_some _ _ (sym now.1 ∙ ((it.kept now.0.clean).1 was.0 was.3 was.2).0),
    ))
ends_commits batch (Err e) adopted old new on next it = stays_by _ _ (λ t told.
    let since = since_some (is_some (told_in adopted)) (told_in new) t told in
    let now = told_is new t since.1 in
    let was = before batch (Err e) adopted old new on next it since.0 now.0.clean
    (it.was_open now.0.clean now.0.live) in
    since_true (is_some (told_in adopted)) (told_in old) since.0
    ∙ (was.1 ∙ (sym (it.undone now.0.clean now.0.live was.0 was.2) ∙ now.1)))

-- what a crash may leave after a commit that was refused
left_either : {E : Type 0} (batch : Batch) (e : E) (adopted old new : State) → KeepsOn adopted old
    → IsNextOf (told_since adopted old) batch → EndsCommit batch (Err e) old new
    → (b : Bool) → is_some (told_in adopted) ≡ b
    → LeavesEither batch (told_since adopted old) (leaves_since adopted old) (leaves_since adopted new)
left_either batch e adopted old new on next it false none left after = inl
    (λ was. absurd (true≢false (sym was ∙ none)))
left_either batch e adopted old new on next it true was left after = go (after was)
  where
    go : leaves_in new left → leaves_since adopted old left
        ⊎ ((tables : KeptTables) × (told_since adopted old ≡ Some tables)
        × (left ≡ Some (with_batch batch tables)))
    go (clean, inl told) =
        let some = some_of left told.0 in
        let now = told_is new some.0 (sym told.1 ∙ some.1) in
        let x = before batch (Err e) adopted old new on next it was clean (it.was_open clean now.0.live) in
        let same : told_in old ≡ Some some.0 = x.1 ∙ (sym (it.undone clean now.0.live x.0 x.2) ∙ now.1) in
        inl (λ _. (was_clean batch (Err e) adopted old new on next it clean, inl (told.0, some.1 ∙ sym same)))
    go (clean, inr found) = elim (it.crash clean left found) [
      | inl was_found ↦ inl (λ _. (was_clean batch (Err e) adopted old new on next it clean, inr was_found))
      | inr (inl seen) ↦ inl (λ _. seen_told adopted old new was on
          (was_clean batch (Err e) adopted old new on next it clean) left seen)
      | inr (inr may) ↦
          let x = before batch (Err e) adopted old new on next it was clean may.0 in
          inr (x.0, since_true (is_some (told_in adopted)) (told_in old) was ∙ x.1, may.1 x.0 x.3 x.2)
    ]

pub ends_leaves : {E : Type 0} (batch : Batch) (r : Result (Unit {0}) E) (adopted old new : State)
    → KeepsOn adopted old → IsNextOf (told_since adopted old) batch → EndsCommit batch r old new
    → CommitLeaves batch r (told_since adopted old) (told_since adopted new) (leaves_since adopted old)
    (leaves_since adopted new)
ends_leaves batch (Ok x) adopted old new on next it = told_by_is (told_since adopted new) _
    (λ t told left after.
    let since = since_some (is_some (told_in adopted)) (told_in new) t told in
    let now = told_is new t since.1 in
    let was = before batch (Ok x) adopted old new on next it since.0 now.0.clean
    (it.was_open now.0.clean now.0.live) in
    let kept = (it.kept now.0.clean).1 was.0 was.3 was.2 in
    elim (after since.0).1 [
      | inl same ↦ same.1 ∙ since.1
      | inr found ↦ kept.1 left found ∙ (sym kept.0 ∙ now.1)
    ])
ends_leaves batch (Err e) adopted old new on next it = left_either batch e adopted old new on next it
    (is_some (told_in adopted)) refl

pub always_ok : {X E : Type 0} (r : Result X E) (P : Type 0) → P → OnOk r P
always_ok (Ok x) P h = h
always_ok (Err e) P h = tt
