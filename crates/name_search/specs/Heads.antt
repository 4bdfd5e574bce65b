-- The first bytes of a word as a number.
use Rattle.std.specs.Prelude.{ℕ, zero, suc, ◌+◌, ◌*◌, List, [], ◌∷◌}

-- The number that a number's digits in base 256 and then n bytes of a text form. Past the end of the text the bytes are
-- zeros.
abbrev pub head_after : ℕ → ℕ → List ℕ → ℕ
head_after zero number text = number
head_after (suc n) number [] = head_after n (number * 256) []
head_after (suc n) number (byte ∷ bytes) = head_after n (number * 256 + byte) bytes

-- The number that the first eight bytes form, the first byte as the highest.
abbrev pub head_of : List ℕ → ℕ
head_of text = head_after 8 0 text
