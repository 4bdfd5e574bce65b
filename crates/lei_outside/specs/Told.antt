-- What a device tells of its bytes, and how a call changes it. `None` is a device that tells nothing.
use Rattle.std.specs.Prelude.{◌≡◌, ◌<◌, ◌≤◌, ℕ, List, [], ◌++◌, length, take, Option, None, Some, Result, MatchResult}

-- These bytes were added at the end of the told ones. What is untold stays untold.
abbrev pub Grows : Option (List ℕ) → Option (List ℕ) → List ℕ → Type 0
Grows None None bytes = Unit {0}
Grows None (Some new) bytes = ⊥
Grows (Some old) None bytes = ⊥
Grows (Some old) (Some new) bytes = new ≡ old ++ bytes

-- The told bytes started with these, and no longer have them. What is untold stays untold.
abbrev pub Loses : Option (List ℕ) → Option (List ℕ) → List ℕ → Type 0
Loses None None bytes = Unit {0}
Loses None (Some new) bytes = ⊥
Loses (Some old) None bytes = ⊥
Loses (Some old) (Some new) bytes = old ≡ bytes ++ new

-- If the bytes are told, none is left.
abbrev pub IsAtEnd : Option (List ℕ) → Type 0
IsAtEnd None = Unit {0}
IsAtEnd (Some left) = left ≡ []

-- A read filled the front of the buffer with the next bytes, with none only at the end. A failed read took none.
abbrev pub Reads : {E : Type 0} → Option (List ℕ) → Option (List ℕ) → Result ℕ E → List ℕ → Type 0
Reads old new result buffer = MatchResult result
    (λ n. (n ≤ length buffer) × Loses old new (take n buffer) × (n ≡ 0 → IsAtEnd new))
    (λ _. Loses old new [])

-- A write wrote a front of the piece, at least one byte. A failed write wrote nothing.
abbrev pub Writes : {E : Type 0} → Option (List ℕ) → Option (List ℕ) → Result ℕ E → List ℕ → Type 0
Writes old new result piece = MatchResult result
    (λ n. (0 < n) × (n ≤ length piece) × Grows old new (take n piece))
    (λ _. Grows old new [])

-- A front of the piece was written, and not all of it.
abbrev pub WritesFront : Option (List ℕ) → Option (List ℕ) → List ℕ → Type 0
WritesFront old new piece = (n : ℕ) × (n < length piece) × Grows old new (take n piece)
