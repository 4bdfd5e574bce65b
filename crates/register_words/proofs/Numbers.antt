-- The numbers of words.
use Rattle.std.proofs.Common.{◌≡◌, ℕ, ◌≤◌, ◌<◌, ◌^◌, List, Some, None, Bool, true, false, ◌&&◌, cond, leb, decimal, bytes_eq, Result, Ok, Err, refl, sym, ap, ◌∙◌, subst, arith}
use Rattle.std.proofs.lemmas.Bool.Decides.{nat_tests}
use Rattle.std.proofs.lemmas.Fmt.{decimal_is_IsNumeral, parse-decimal, IsAscii-decimal}
use Rattle.std.proofs.lemmas.Slice.Eq.{bytes_eq-Decides}
use Rattle.std.proofs.lemmas.Str.{IsUtf8-from_ascii}
use Rattle.std.specs.Str.{IsUtf8}
use Rattle.std.specs.Str.Parse.{digits_value, ParsesUnsigned}
use Rattle.register_words.specs.Words.{number_within, plain_number}

all_three : (a b c : Bool) → a ≡ true → b ≡ true → c ≡ true → (a && b && c) ≡ true
all_three a b c x y z = rw (x, y, z) refl

parts_of : (a b c : Bool) → (a && b && c) ≡ true → (a ≡ true) × (b ≡ true) × (c ≡ true)
parts_of true true c h = (refl, refl, h)
parts_of true false c h = cc
parts_of false b c h = cc

none_unless : (test : Bool) (n : ℕ) → (test ≡ true → ⊥) → cond test (Some n) None ≡ None
none_unless true n never = absurd (never refl)
none_unless false n never = refl

-- bytes that write a number of the range are that number's decimal text
pub number_within-decimal : (low high : ℕ) (bytes : List ℕ) (n : ℕ) → low ≤ n → n ≤ high → n < 2 ^ 32 → bytes ≡ decimal n
    → number_within low high bytes ≡ Some n
unfolding number_within
number_within-decimal low high bytes n above below small is =
    let value : digits_value 10 bytes ≡ n = ap (digits_value 10) is ∙ (decimal_is_IsNumeral n (omega arith)).1 in
    let at_least : leb low n ≡ true = grind (arith, nat_tests) in
    let at_most : leb n high ≡ true = grind (arith, nat_tests) in
    let plain = (bytes_eq-Decides (decimal n) bytes).1 (sym is) in
    ap (plain_number low high bytes) value
    ∙ ap (λ test. cond test (Some n) None)
    (all_three (leb low n) (leb n high) (bytes_eq (decimal n) bytes) at_least at_most plain)

-- and nothing else writes one
pub number_within-none : (low high : ℕ) (bytes : List ℕ)
    → ((n : ℕ) → low ≤ n → n ≤ high → bytes ≡ decimal n → ⊥) → number_within low high bytes ≡ None
unfolding number_within
number_within-none low high bytes never =
    let n = digits_value 10 bytes in
    none_unless (leb low n && leb n high && bytes_eq (decimal n) bytes) n (λ holds.
    let parts = parts_of (leb low n) (leb n high) (bytes_eq (decimal n) bytes) holds in
    let above : low ≤ n = grind (arith, nat_tests, parts.0) in
    let below : n ≤ high = grind (arith, nat_tests, parts.1) in
    never n above below (sym ((bytes_eq-Decides (decimal n) bytes).0 parts.2)))

pub number_within-no_text : (low high : ℕ) (bytes : List ℕ) → high < 2 ^ 32 → ¬ (IsUtf8 bytes)
    → number_within low high bytes ≡ None
number_within-no_text low high bytes small no_text =
    number_within-none low high bytes
    (λ n above below is. let P : List ℕ
    → Type 0 = λ b. IsUtf8 b in no_text
    (subst P (sym is) (IsUtf8-from_ascii (decimal n) (IsAscii-decimal n (omega arith)))))

pub number_within-not_parsed : (low high : ℕ) (bytes : List ℕ) → high < 2 ^ 32
    → ParsesUnsigned {E = Unit {0}} 32 10 bytes (Err tt) → number_within low high bytes ≡ None
number_within-not_parsed low high bytes small parsed =
    number_within-none low high bytes (λ n above below is.
    let found : Result ℕ (Unit {0}) = Err tt in
    let read : found ≡ Ok n = parse-decimal 32 n bytes found (omega arith) (omega arith) is parsed in
    cc)

-- what was read isn't a number of the range: it is out of range, or isn't written in this form
pub number_within-other : (low high : ℕ) (bytes : List ℕ) (number : ℕ) → high < 2 ^ 32
    → ParsesUnsigned {E = Unit {0}} 32 10 bytes (Ok number)
    → (low ≤ number → number ≤ high → bytes ≡ decimal number → ⊥) → number_within low high bytes ≡ None
number_within-other low high bytes number small parsed never =
    number_within-none low high bytes (λ n above below is.
    let found : Result ℕ (Unit {0}) = Ok number in
    let read : found ≡ Ok n = parse-decimal 32 n bytes found (omega arith) (omega arith) is parsed in
    let same : number ≡ n = cc in
    never (omega arith) (omega arith) (is ∙ ap decimal (sym same)))

chosen : (test : Bool) (v n : ℕ) → cond test (Some v) None ≡ Some n → (test ≡ true) × (v ≡ n)
chosen true v n is = (refl, cc)
chosen false v n is = cc

pub number_within-range : (low high : ℕ) (bytes : List ℕ) (n : ℕ) → number_within low high bytes ≡ Some n
    → (low ≤ n) × (n ≤ high)
unfolding number_within
number_within-range low high bytes n is =
    let v = digits_value 10 bytes in
    let found = chosen (leb low v && leb v high && bytes_eq (decimal v) bytes) v n is in
    let parts = parts_of (leb low v) (leb v high) (bytes_eq (decimal v) bytes) found.0 in
    let above : low ≤ v = grind (arith, nat_tests, parts.0) in
    let below : v ≤ high = grind (arith, nat_tests, parts.1) in
    let same = found.1 in
    (omega arith, omega arith)
