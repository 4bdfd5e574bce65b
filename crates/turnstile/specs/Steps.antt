-- What the steps of a turnstile show to the seat that makes them.
use Rattle.std.specs.Prelude.{◌≡◌, ℕ, ◌≤◌, ◌%◌, ◌^◌, List, [], ◌∷◌, ◌++◌, length, Option}
use Rattle.atomic_table.specs.Table.{Step, Me}
use Rattle.turnstile.specs.declared.view.Member.{Member}
use Rattle.turnstile.specs.declared.view.Account.{Account}
use Rattle.turnstile.specs.declared.view.View.{View}
use Rattle.turnstile.specs.Lists.{Each, IsPrefix, longer}
use Rattle.turnstile.specs.Meaning.{Meaning, told_of, mine_after}
use Rattle.turnstile.specs.Rule.{idle_view, waiting_view, turn_view}

-- an idle seat, which holds no slot
abbrev pub IsIdle : {T E D : Type 0} → Me T (View E D) → Type 0
IsIdle me = me ≡ (idle_view me.0.seen [] me.0.accounts, [])

-- The seat has the ticket that the word counted.
abbrev pub Draws : {T E D : Type 0} → Step T → Me T (View E D) → ℕ → Me T (View E D) → Type 0
Draws st v found w = (t : ℕ) × (found ≡ t % 2 ^ 64) × (w ≡ (waiting_view v.0 t, []))

-- the first account after a turn
abbrev pub after_turn : {D : Type 0} → ℕ → ℕ → ℕ → List (Member D) → List (Account D) → List (Account D)
after_turn first before after told [] = []
after_turn first before after told (a ∷ rest) =
    record {
      number = a.number;
      stays = a.stays;
      mine = mine_after first before after a.mine;
      told = a.told ++ told;
    } ∷ rest

module _ {T E D : Type 0} (m : Meaning T E D) where
  -- The value x continues all that the seat knows. Its list starts with what was seen, and its numbers that stay are
  -- those of each account. Its count of faults is at least every count that was told.
  pub record GoesOnFrom (v : View E D) (x : T) : Type 0 where
    pub seen : IsPrefix v.seen (m.entries x)
    pub stays : Each (λ a. m.stays x ≡ a.stays) v.accounts
    pub told : Each (λ a. Each (λ t. t.to ≤ m.faults x) a.told) v.accounts

  -- A seat whose ticket is served has the value from now on. Any other seat is unchanged.
  abbrev pub Sees : Step T → Me T (View E D) → ℕ → Me T (View E D) → Type 0
  Sees st v found w =
      (found ≡ v.0.ticket % 2 ^ 64 →
      (x : T) × (w ≡ (turn_view v.0 (m.entries x) (m.faults x), (0, x) ∷ [])) × GoesOnFrom v.0 x)
      × ((found ≡ v.0.ticket % 2 ^ 64 → ⊥) → w ≡ v)

  -- the view of a seat that has returned the value y
  abbrev pub view_after : Option D → View E D → T → View E D
  view_after said v y =
      idle_view (m.entries y) []
      (after_turn m.first (length v.seen) (length (m.entries y))
      (told_of said (length v.seen) v.from (m.faults y)) v.accounts)

  -- A seat in turn has returned its value.
  abbrev pub PassesOn : Option D → Step T → Me T (View E D) → ℕ → Me T (View E D) → Type 0
  PassesOn said st v found w = (y : T) → v.1 ≡ (0, y) ∷ [] → w ≡ (view_after said v.0 y, [])

-- A seat that raises an event count is unchanged.
abbrev pub Notifies : {T E D : Type 0} → Step T → Me T (View E D) → ℕ → Me T (View E D) → Type 0
Notifies st v found w = w ≡ v

-- The accounts have the same numbers that stay.
abbrev pub StayAlike : {D : Type 0} → List (Account D) → Type 0
StayAlike accounts = (stays : List ℕ) × Each (λ a. a.stays ≡ stays) accounts

-- A seat that absorbed another one has seen the longer of the two lists, and both are fronts of it. Its accounts have the
-- same numbers that stay.
abbrev pub Learns : {T E D : Type 0} → Step T → Me T (View E D) → ℕ → Me T (View E D) → Type 0
Learns st v found w =
    (w ≡ (idle_view (longer v.0.seen v.0.aside) [] v.0.accounts, v.1))
    × IsPrefix v.0.seen (longer v.0.seen v.0.aside) × IsPrefix v.0.aside (longer v.0.seen v.0.aside)
    × StayAlike v.0.accounts
