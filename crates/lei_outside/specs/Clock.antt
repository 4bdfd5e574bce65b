-- Clocks: the moments that they give, and what they tell of them. A moment is a whole second of UTC, counted from
-- 1970-01-01T00:00:00Z and negative before it.
use Rattle.std.specs.Prelude.{◌≡◌, ℤ, pos, neg_ℤ, ◌≤ℤ◌, List, ◌++◌, Option, None, Some}

-- A clock's moment is from 0001-01-01T00:00:00Z to 9998-12-31T23:59:59Z.
abbrev pub IsClockMoment : ℤ → Type 0
IsClockMoment seconds = (neg_ℤ (pos 62_135_596_800) ≤ℤ seconds) × (seconds ≤ℤ pos 253_370_764_799)

-- These moments were given, in this order: if moments are told before and after, these are added at the end. What is
-- untold stays untold, and what is told may become untold.
abbrev pub Gave : Option (List ℤ) → Option (List ℤ) → List ℤ → Type 0
Gave None None moments = Unit {0}
Gave None (Some new) moments = ⊥
Gave (Some old) None moments = Unit {0}
Gave (Some old) (Some new) moments = new ≡ old ++ moments
