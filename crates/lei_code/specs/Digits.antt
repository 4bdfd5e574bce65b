-- The check digits for the first 18 characters of a code (ISO/IEC 7064 MOD 97-10).
use Rattle.std.specs.Prelude.{ℕ, ◌+◌, ◌-◌, ◌/◌, ◌%◌, [], ◌∷◌, ◌++◌, codes}
use Rattle.lei_code.specs.Number.{number}
use Rattle.lei_code.specs.Texts.{Text}

-- A number below 100 in two digits.
abbrev pub two_digits : ℕ → Text
two_digits n = (48 + n / 10) ∷ (48 + n % 10) ∷ []

-- The two check digits for the first 18 characters: 98 minus the remainder modulo 97 of the number of the text followed
-- by `00` (ISO/IEC 7064, MOD 97-10).
unfoldable pub digits : Text → Text
digits text = two_digits (98 - number (text ++ codes "00") % 97)
