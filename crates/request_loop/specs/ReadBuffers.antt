-- What a read from a wire does to a buffer.
use Rattle.std.specs.Prelude.{◌≡◌, ◌≤◌, ℕ, List, ◌++◌, length, Option}
use Rattle.lei_outside.specs.Told.{Loses, IsAtEnd}

-- This many bytes came from the wire, at most as many as allowed, and follow those that the buffer held. The number is
-- 0 only at the end.
abbrev pub Fills : Option (List ℕ) → Option (List ℕ) → List ℕ → List ℕ → ℕ → ℕ → Type 0
Fills before after held held_now count most =
    (more : List ℕ) × (length more ≡ count) × (count ≤ most) × Loses before after more
    × (held_now ≡ held ++ more)
    × (count ≡ 0 → IsAtEnd after)
