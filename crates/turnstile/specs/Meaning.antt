-- What the value of a turnstile represents, and what one turn does to it.
use Rattle.std.specs.Prelude.{◌≡◌, ℕ, ◌+◌, ◌≤◌, ◌==◌, List, [], ◌∷◌, ◌++◌, length, Option, Some, None, if◌then◌else◌}
use Rattle.turnstile.specs.declared.view.Member.{Member}
use Rattle.turnstile.specs.Lists.{Each, IsPrefix}

-- What values mean. Each value represents a list, and has a count of faults and numbers that stay. The meaning also
-- gives the number of the first entry, and what has to hold for each member that a pass is told.
pub record Meaning (T E D : Type 0) : Type 1 where
  pub entries : T → List E
  pub faults : T → ℕ
  pub stays : T → List ℕ
  pub first : ℕ
  pub tells : Member D → Type 0

-- the record of its five parts
abbrev pub meaning : {T E D : Type 0} → (T → List E) → (T → ℕ) → (T → List ℕ) → ℕ → (Member D → Type 0)
    → Meaning T E D
meaning entries faults stays first tells =
    record { entries = entries; faults = faults; stays = stays; first = first; tells = tells }

module _ {T E D : Type 0} (m : Meaning T E D) where
  -- The value y continues x. Its list is that of x with at most one more entry, at the end. Its count of faults hasn't
  -- fallen, and the numbers that stay are as before.
  pub record GoesOn (x y : T) : Type 0 where
    pub list : IsPrefix (m.entries x) (m.entries y)
    pub one : length (m.entries y) ≤ length (m.entries x) + 1
    pub faults : m.faults x ≤ m.faults y
    pub stays : m.stays y ≡ m.stays x

-- what an answer adds to what its pass was told
abbrev pub told_of : {D : Type 0} → Option D → ℕ → ℕ → ℕ → List (Member D)
told_of (Some piece) at from to = record { piece = piece; at = at; from = from; to = to } ∷ []
told_of None at from to = []

-- A turn changed the value from x to y. If its answer adds a member, what has to hold for this member holds.
abbrev pub IsToldSo : {T E D : Type 0} → Meaning T E D → Option D → T → T → Type 0
IsToldSo m said x y = Each m.tells (told_of said (length (m.entries x)) (m.faults x) (m.faults y))

-- The places of a pass's own entries after a turn. The arguments are the number of the first entry, the length of the
-- list before and after the turn, and the places before it.
abbrev pub mine_after : ℕ → ℕ → ℕ → List ℕ → List ℕ
mine_after first before after mine = if after == before then mine else mine ++ (first + before) ∷ []
