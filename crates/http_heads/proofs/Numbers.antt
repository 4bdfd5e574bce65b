-- The number that a header states.
use Rattle.std.proofs.Common.{◌≡◌, ℕ, ◌<◌, ◌≤◌, List, length, true, arith}
use Rattle.std.specs.Prelude.{Result, Ok, IsUtf8}
use Rattle.std.specs.Str.{all_ascii_digits}
use Rattle.std.specs.Str.Parse.{ParsesUnsigned, digits_value}
use Rattle.std.proofs.lemmas.Str.{IsUtf8-from_ascii}
use Rattle.std.proofs.lemmas.Fmt.{IsAscii-from_digits}
use Rattle.std.proofs.lemmas.Str.Parse.{IsNumeralModel, numerals_by_value, tells_all_ascii_digits, digits_value_short, parse_gives}

own : IsNumeralModel (λ ds. all_ascii_digits ds ≡ true) (digits_value 10)
own = numerals_by_value _ tells_all_ascii_digits

-- up to ten digits are read as the number that they write
pub ten_read : {E : Type 0} (bs : List ℕ) (r : Result ℕ E) → ParsesUnsigned 64 10 bs r → all_ascii_digits bs ≡ true → 0 < length bs → length bs ≤ 10 → r ≡ Ok (digits_value 10 bs)
ten_read bs r parses digits some few = parse_gives own 64 bs r parses digits some (omega (arith, digits_value_short own bs 10 digits few))

-- digits are UTF-8
pub digits_text : (bs : List ℕ) → all_ascii_digits bs ≡ true → IsUtf8 bs
digits_text bs digits = IsUtf8-from_ascii bs (IsAscii-from_digits bs (own.to bs digits))
