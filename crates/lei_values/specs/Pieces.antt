-- Pieces of a text that follow one another.
use Rattle.std.specs.Prelude.{◌≡◌, ◌≤◌, ◌-◌, ℕ, List, [], ◌∷◌, length, take, drop}
use Rattle.std.specs.Str.{IsCharBoundary}

-- The bytes from the start up to, but without, the end.
abbrev pub piece : ℕ → ℕ → List ℕ → List ℕ
piece start end bytes = take (end - start) (drop start bytes)

-- The pieces that follow one another from the start, by their ends.
abbrev pub pieces : ℕ → List ℕ → List ℕ → List (List ℕ)
pieces start [] bytes = []
pieces start (end ∷ ends) bytes = piece start end bytes ∷ pieces end ends bytes

-- The ends of pieces that follow one another from the start to the end of a text: each is a position between
-- characters.
abbrev pub AreEnds : ℕ → List ℕ → List ℕ → Type 0
AreEnds start [] bytes = start ≡ length bytes
AreEnds start (end ∷ ends) bytes = (start ≤ end) × IsCharBoundary bytes end × AreEnds end ends bytes
