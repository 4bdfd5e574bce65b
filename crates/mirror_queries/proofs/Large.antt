-- Sizes that are too large for a packet.
use Rattle.std.proofs.Common.{◌≡◌, ℕ, ◌≤◌, ◌<◌, List, Some, None, Bool, true, ◌&&◌, cond, leb, decimal, bytes_eq, Result, Ok, Err, refl, sym, ap, ◌∙◌, subst, arith}
use Rattle.std.proofs.lemmas.Bool.Decides.{nat_tests}
use Rattle.std.proofs.lemmas.Fmt.{decimal_is_IsNumeral, parse-decimal, IsAscii-decimal}
use Rattle.std.proofs.lemmas.Slice.Eq.{bytes_eq-Decides}
use Rattle.std.proofs.lemmas.Str.{IsUtf8-from_ascii}
use Rattle.std.specs.Str.{IsUtf8}
use Rattle.std.specs.Str.Parse.{digits_value, ParsesUnsigned}
use Rattle.register_words.specs.Words.{number_within, plain_number}
use Rattle.register_words.proofs.Numbers.{number_within-none}
use Rattle.mirror_queries.specs.Grammar.{large_of}

passes_all : (a b c : Bool) → a ≡ true → b ≡ true → c ≡ true → (a && b && c) ≡ true
passes_all a b c x y z = rw (x, y, z) refl

-- the decimal text of a number in the range is read as this number
pub large-decimal : (word : List ℕ) (n : ℕ) → 536_870_912 < n → n ≤ 9_999_999_999 → word ≡ decimal n
    → large_of word ≡ Some n
unfolding number_within
large-decimal word n above below is =
    let value : digits_value 10 word ≡ n =
    ap (digits_value 10) is ∙ (decimal_is_IsNumeral n (omega (arith, below))).1 in
    let at_least : leb 536_870_913 n ≡ true = grind (arith, nat_tests) in
    let at_most : leb n 9_999_999_999 ≡ true = grind (arith, nat_tests) in
    let plain = (bytes_eq-Decides (decimal n) word).1 (sym is) in
    ap (plain_number 536_870_913 9_999_999_999 word) value
    ∙ ap (λ test. cond test (Some n) None)
    (passes_all (leb 536_870_913 n) (leb n 9_999_999_999) (bytes_eq (decimal n) word) at_least at_most plain)

pub large-no_text : (word : List ℕ) → ¬ (IsUtf8 word) → large_of word ≡ None
large-no_text word no_text =
    number_within-none 536_870_913 9_999_999_999 word (λ n above below is.
    let P : List ℕ → Type 0 = λ b. IsUtf8 b in
    no_text (subst P (sym is) (IsUtf8-from_ascii (decimal n) (IsAscii-decimal n (omega (arith, below))))))

pub large-not_parsed : (word : List ℕ) → ParsesUnsigned {E = Unit {0}} 64 10 word (Err tt) → large_of word ≡ None
large-not_parsed word parsed =
    number_within-none 536_870_913 9_999_999_999 word (λ n above below is.
    let found : Result ℕ (Unit {0}) = Err tt in
    let read : found ≡ Ok n = parse-decimal 64 n word found (omega (arith, below)) (omega (arith, below)) is parsed in
    cc)

-- the number that was read is out of the range, or the word isn't its decimal text
pub large-other : (word : List ℕ) (number : ℕ) → ParsesUnsigned {E = Unit {0}} 64 10 word (Ok number)
    → (536_870_912 < number → number ≤ 9_999_999_999 → word ≡ decimal number → ⊥) → large_of word ≡ None
large-other word number parsed never =
    number_within-none 536_870_913 9_999_999_999 word (λ n above below is.
    let found : Result ℕ (Unit {0}) = Ok number in
    let read : found ≡ Ok n = parse-decimal 64 n word found (omega (arith, below)) (omega (arith, below)) is parsed in
    let same : number ≡ n = cc in
    never (omega (arith, same, above)) (omega (arith, same, below)) (is ∙ ap decimal (sym same)))
