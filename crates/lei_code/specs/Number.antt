-- The decimal number that a text of digits and capital letters represents, by which its check digits are judged (ISO
-- 17442-1, ISO/IEC 7064 MOD 97-10).
use Rattle.std.specs.Prelude.{ℕ, ◌+◌, ◌-◌, ◌*◌, ◌/◌, ◌%◌, List, [], ◌∷◌, if◌then◌else◌, fold, flat_map}
use Rattle.std.specs.Char.{is_ascii_digit}
use Rattle.lei_code.specs.Texts.{Text}

-- The decimal digits that replace a character: a digit's own value, and two digits for a letter (A is 10, Z is 35).
abbrev pub digits_for : ℕ → List ℕ
digits_for c = if is_ascii_digit c then (c - 48) ∷ [] else (c - 55) / 10 ∷ (c - 55) % 10 ∷ []

-- The number that decimal digits write, the most significant first.
abbrev pub decimal : List ℕ → ℕ
decimal digits = fold (λ n digit. 10 * n + digit) 0 digits

-- The number that results when each letter of the text is replaced by its two digits.
unfoldable pub number : Text → ℕ
number text = decimal (flat_map digits_for text)
