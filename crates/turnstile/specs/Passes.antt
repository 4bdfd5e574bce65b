-- Passes and a turnstile as contracts see them, and what the calls say of them.
use Rattle.std.specs.Prelude.{◌≡◌, ◌≢◌, ℕ, ◌+◌, ◌≤◌, ◌<◌, ◌⊎◌, List, [], ◌∷◌, ◌++◌, length, Option, Some, slice_get, All, Contains}
use Rattle.atomic_table.specs.Seated.{TableId}
use Rattle.turnstile.specs.declared.view.Member.{Member}
use Rattle.turnstile.specs.declared.view.Account.{Account}
use Rattle.turnstile.specs.declared.view.View.{View}
use Rattle.turnstile.specs.Lists.{total, IsPrefix}
use Rattle.turnstile.specs.Meaning.{Meaning, GoesOn, told_of, mine_after}
use Rattle.turnstile.specs.Rule.{idle_view, spent_view, new_account}

-- A pass is for one table and has a number. The other parts are the list that it has seen, the places of its own
-- entries, what it was told, and the numbers that stay.
pub record PassView (E D : Type 0) : Type 0 where
  pub table : TableId
  pub number : ℕ
  pub seen : List E
  pub mine : List ℕ
  pub told : List (Member D)
  pub stays : List ℕ

-- A turnstile: which table it is, the value that it was opened with, and its number of passes.
pub record TurnstileView (T : Type 0) : Type 0 where
  pub table : TableId
  pub value : T
  pub passes : ℕ

-- Both lists are fronts of the third.
abbrev pub AreFronts : {E : Type 0} → List E → List E → List E → Type 0
AreFronts xs ys whole = IsPrefix xs whole × IsPrefix ys whole

-- The stretch of a member is between two counts of faults.
abbrev pub IsBetweenCounts : {D : Type 0} → ℕ → ℕ → Member D → Type 0
IsBetweenCounts from to t = (from ≤ t.from) × (t.from ≤ t.to) × (t.to ≤ to)

-- ---- passes and views

-- the first account of a view
abbrev pub account_of : {D : Type 0} → List (Account D) → Account D
account_of [] = new_account 0 []
account_of (a ∷ rest) = a

module _ {E D : Type 0} where
  abbrev pub first_view : List (View E D) → View E D
  first_view [] = spent_view
  first_view (v ∷ rest) = v

  abbrev pub pass_at : TableId → View E D → Account D → PassView E D
  pass_at table v a =
      record {
        table = table;
        number = a.number;
        seen = v.seen;
        mine = a.mine;
        told = a.told;
        stays = a.stays;
      }

  -- the pass of a badge with these views
  abbrev pub pass_of : TableId → List (View E D) → PassView E D
  pass_of table views = pass_at table (first_view views) (account_of (first_view views).accounts)

  abbrev pub account_at : PassView E D → Account D
  account_at p = record { number = p.number; stays = p.stays; mine = p.mine; told = p.told }

  -- the view of a pass's seat
  abbrev pub view_of : PassView E D → View E D
  view_of p = idle_view p.seen [] (account_at p ∷ [])

  -- A badge with these views is a pass: it has one view, which is idle and has one account.
  abbrev pub IsPass : TableId → List (View E D) → Type 0
  IsPass table views = views ≡ view_of (pass_of table views) ∷ []

  -- ---- what the calls say

  -- a pass in its initial state
  abbrev pub new_pass : TableId → ℕ → List E → List ℕ → PassView E D
  new_pass table number seen stays =
      record { table = table; number = number; seen = seen; mine = []; told = []; stays = stays }

  -- The passes are as `open` makes them, with consecutive numbers starting at k.
  abbrev pub AreNew : TableId → List E → List ℕ → ℕ → List (PassView E D) → Type 0
  AreNew table seen stays k [] = Unit {0}
  AreNew table seen stays k (p ∷ ps) = (p ≡ new_pass table k seen stays) × AreNew table seen stays (k + 1) ps

  -- the same pass after it has seen another list
  abbrev pub with_seen : PassView E D → List E → PassView E D
  with_seen p seen =
      record {
        table = p.table;
        number = p.number;
        seen = seen;
        mine = p.mine;
        told = p.told;
        stays = p.stays;
      }

  -- each is a pass of this table
  abbrev pub AreOf : TableId → List (PassView E D) → Type 0
  AreOf table passes = All (λ p. p.table ≡ table) passes

  -- each number below n is that of some pass
  abbrev pub HaveAll : ℕ → List (PassView E D) → Type 0
  HaveAll n passes = (k : ℕ) → k < n
      → (i : ℕ) × (p : PassView E D) × (slice_get passes i ≡ Some p) × (p.number ≡ k)

  -- the place is in the `mine` of exactly one pass
  abbrev pub IsMadeOnce : List (PassView E D) → ℕ → Type 0
  IsMadeOnce passes place =
      (i : ℕ) × (p : PassView E D) × (slice_get passes i ≡ Some p) × Contains p.mine place
      × ((j : ℕ) (q : PassView E D) → slice_get passes j ≡ Some q → Contains q.mine place → j ≡ i)

  -- the stretches of any two members, of one pass or of two, have at most an end in common
  abbrev pub AreApart : List (PassView E D) → Type 0
  AreApart passes =
      (i j a b : ℕ) (p q : PassView E D) (s t : Member D) → slice_get passes i ≡ Some p
      → slice_get passes j ≡ Some q →
      slice_get p.told a ≡ Some s → slice_get q.told b ≡ Some t → (i ≢ j) ⊎ (a ≢ b)
      → (s.to ≤ t.from) ⊎ (t.to ≤ s.from)

  -- The stretch of each member is between two counts of faults.
  abbrev pub AreBetween : ℕ → ℕ → List (PassView E D) → Type 0
  AreBetween from to passes = All (λ p. All (IsBetweenCounts from to) p.told) passes

  -- If each member gets a weight of at most its stretch, all weights together are at most the stretch between two
  -- counts of faults.
  abbrev pub AreWithin : ℕ → ℕ → List (PassView E D) → Type 0
  AreWithin from to passes =
      (w : Member D → ℕ) → All (λ p. All (λ t. w t + t.from ≤ t.to) p.told) passes →
      total (λ p. total w p.told) passes + from ≤ to

-- The place is that of an entry that the list got while x became y.
abbrev pub IsAdded : {T E D : Type 0} → Meaning T E D → T → T → ℕ → Type 0
IsAdded m x y place = (m.first + length (m.entries x) ≤ place) × (place < m.first + length (m.entries y))

module _ {T E D : Type 0} (m : Meaning T E D) where
  -- Each place that a pass made is that of an entry that the list got while x became y.
  abbrev pub AreAdded : T → T → List (PassView E D) → Type 0
  AreAdded x y passes = All (λ p. All (IsAdded m x y) p.mine) passes

  -- a pass after a turn that changed the value from x to y
  abbrev pub pass_after : PassView E D → Option D → T → T → PassView E D
  pass_after p said x y =
      record {
        table = p.table;
        number = p.number;
        seen = m.entries y;
        mine = mine_after m.first (length (m.entries x)) (length (m.entries y)) p.mine;
        told = p.told ++ told_of said (length (m.entries x)) (m.faults x) (m.faults y);
        stays = p.stays;
      }

  -- A turn of a pass changed the value from x to y. The value x continues all that the pass has seen and was told, and
  -- y continues x. Afterwards the pass has seen y, with its own entry and what it was told.
  pub record IsTurn (before : PassView E D) (said : Option D) (x y : T) (after : PassView E D) : Type 0 where
    pub seen : IsPrefix before.seen (m.entries x)
    pub stays : m.stays x ≡ before.stays
    pub told : All (λ t. t.to ≤ m.faults x) before.told
    pub turn : GoesOn m x y
    pub after_is : after ≡ pass_after before said x y
