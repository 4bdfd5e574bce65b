-- Lists, and sums over them.
use Rattle.std.specs.Prelude.{◌≡◌, ℕ, ◌+◌, List, [], ◌∷◌, ◌++◌, length, nat_le, if◌then◌else◌}

-- P holds for each element
abbrev pub Each : {X : Type 0} → (X → Type 0) → List X → Type 0
Each P [] = Unit {0}
Each P (x ∷ xs) = P x × Each P xs

-- the sum of f over all elements
abbrev pub total : {X : Type 0} → (X → ℕ) → List X → ℕ
total f [] = 0
total f (x ∷ xs) = f x + total f xs

-- the whole starts with that front
abbrev pub IsPrefix : {E : Type 0} → List E → List E → Type 0
IsPrefix {E} front whole = (rest : List E) × (whole ≡ front ++ rest)

-- the longer of two lists, or the first if both have the same length
abbrev pub longer : {E : Type 0} → List E → List E → List E
longer xs ys = if nat_le (length ys) (length xs) then xs else ys
