-- What contracts see of a keeper over SQLite, and what it tells.
use Rattle.std.specs.Prelude.{◌≡◌, ℕ, Bool, true, false, if◌then◌else◌, Option, None, Some, is_some, IfSome, IsTrue, ⊤, not, ◌&&◌}
use Rattle.std.proofs.Common.{refl, sym, ap, inl, true≢false}
use Rattle.sqlite_trees.specs.View.{doubt}
use Rattle.sqlite_trees.proofs.Doubt.{no_doubt}
use Rattle.std.specs.Coded.{Coded, code_by, coded×, coded_option, coded_ℕ}
use Rattle.sqlite_trees.specs.declared.store.Store.{Ghosts}
use Rattle.sqlite.specs.Held.{Held, held_code, state}
use Rattle.sqlite.specs.State.{State, HasCleanDisk}
use Rattle.lei_values.specs.KeptTables.{KeptTables}
use Rattle.store_tables.specs.Crash.{leaves_in}
use Rattle.store_tables.specs.Told.{told_in, told_in_trees}

-- A connection that a keeper has, and what it was when the keeper adopted it.
pub record StoreState (S : Type 0) : Type 0 where
  pub conn : Held S
  pub adopted : Held S

-- A keeper: its connection, if it has one, and how many of its calls have failed.
pub record SqliteKeeperState (S : Type 0) : Type 0 where
  pub store : Option (StoreState S)
  pub faults : ℕ

-- What is seen of a store, in coded form.
abbrev pub store_code : {S : Type 0} → Coded S → Coded (StoreState S)
store_code {S} s = code_by (Held S × Held S) (coded× (held_code s) (held_code s)) (λ x. (x.conn, x.adopted))
    (λ p. record { conn = p.0; adopted = p.1 }) (λ _. refl)

-- What is seen of a keeper, in coded form.
abbrev pub keeper_code : {S : Type 0} → Coded S → Coded (SqliteKeeperState S)
keeper_code {S} s =
    code_by (Option (StoreState S) × ℕ) (coded× (coded_option (store_code s)) coded_ℕ)
    (λ x. (x.store, x.faults)) (λ p. record { store = p.0; faults = p.1 }) (λ _. refl)

-- The tables that a connection tells, if it told its tables when it was adopted.
abbrev pub told_since : State → State → Option KeptTables
told_since adopted now = if is_some (told_in adopted) then told_in now else None

-- What a crash may leave of it. Nothing is claimed if it told nothing from the start.
abbrev pub leaves_since : State → State → Option KeptTables → Type 0
leaves_since adopted now left = IsTrue (is_some (told_in adopted)) → leaves_in now left

-- A connection that told its tables when it was adopted tells them between transactions while it is open and
-- its disk is clean.
pub record KeepsOn (adopted now : State) : Type 0 where
  pub mode : IsTrue (is_some (told_in adopted)) → now.in_transaction ≡ false
  pub told : IsTrue (is_some (told_in adopted)) → HasCleanDisk now → IsTrue now.is_open
      → IsTrue (is_some (told_in now))

module _ {S : Type 0} (g : Ghosts S) where
  -- The tables of a store, or of a keeper that may have no store.
  abbrev pub tables_of : StoreState S → Option KeptTables
  tables_of s = told_since (state g s.adopted) (state g s.conn)

  abbrev pub tables_in : Option (StoreState S) → Option KeptTables
  tables_in None = None
  tables_in (Some s) = tables_of s

  -- What a crash may leave of them: if a keeper has no store, anything.
  abbrev pub leaves_of : StoreState S → Option KeptTables → Type 0
  leaves_of s = leaves_since (state g s.adopted) (state g s.conn)

  abbrev pub leaves_from : Option (StoreState S) → Option KeptTables → Type 0
  leaves_from None left = ⊤
  leaves_from (Some s) left = leaves_of s left

-- ---- the told tables may be left

clean_told : (b : Bool) (o : Option KeptTables) (c : Bool) (t : KeptTables)
    → (if c && b then o else None) ≡ Some t → doubt c ≡ 0
clean_told b o true t h = no_doubt true refl
clean_told b o false t h = absurd (not_some t (ap is_some h))
  where
    not_some : (t : KeptTables) → false ≡ true → ⊥
    not_some t e = true≢false (sym e)

may_stay_since : (b : Bool) (adopted now : State) → is_some (told_in adopted) ≡ b
    → IfSome (if b then told_in now else None) (λ t. leaves_since adopted now (Some t))
may_stay_since false adopted now is = tt
may_stay_since true adopted now is = go (told_in now) refl
  where
    go : (o : Option KeptTables) → told_in now ≡ o → IfSome o (λ t. leaves_since adopted now (Some t))
    go None e = tt
    go (Some t) e = λ _. (
      clean_told (now.is_open && not now.in_transaction)
          (told_in_trees now.now.schema now.now.trees) now.is_clean t e,
      inl (refl, sym e),
    )

-- A crash may leave the tables that a keeper tells.
pub may_stay : {S : Type 0} (g : Ghosts S) (o : Option (StoreState S))
    → IfSome (tables_in g o) (λ t. leaves_from g o (Some t))
may_stay g None = tt
may_stay g (Some s) = may_stay_since (is_some (told_in (state g s.adopted))) (state g s.adopted)
    (state g s.conn) refl
