-- The start of a file is read back from its text, and only from this.
use Rattle.std.proofs.Common.{◌≡◌, ℕ, ◌<◌, ◌≤◌, ◌^◌, Bool, true, false, cond, ◌&&◌, List, Option, Some, None, Result, Ok, Err, option_map, option_and_then, unwrap_or, refl, sym, ap, ◌∙◌, subst, length, take, drop, get_or, ℤ}
use Rattle.std.specs.Prelude.{decimal, nat_lt}
use Rattle.std.specs.List.{prefix_len}
use Rattle.std.specs.Char.{is_ascii_digit}
use Rattle.std.specs.Str.{IsUtf8, bytes_eq, is_utf8}
use Rattle.std.specs.Str.Parse.{ParsesUnsigned, digits_value}
use Rattle.std.proofs.lemmas.Bool.{true≢false, lt-ltb}
use borrow.Author.Tests.{ltb-true}
use Rattle.std.proofs.lemmas.Fmt.{IsAscii-decimal, decimal_is_IsNumeral, parse-decimal}
use Rattle.std.proofs.lemmas.Option.{none-some}
use Rattle.std.proofs.lemmas.Str.{IsUtf8-from_ascii, IsUtf8-from_is_utf8, is_utf8-from_IsUtf8}
use Rattle.std.proofs.lemmas.Slice.Eq.{bytes_eq-Decides}
use Rattle.std.proofs.lemmas.List.Sums.{prefix_len_is}
use Rattle.lei_shapes.specs.Clock.{moment_text}
use Rattle.lei_shapes.specs.Moment.{read_moment}
use Rattle.copy_forms.specs.JsonReading.{number_from, printed_moment, publication_number_in}

-- ---- numbers

parts : (a b : Bool) → a && b ≡ true → (a ≡ true) × (b ≡ true)
parts true b is = (refl, is)
parts false b is = absurd (true≢false (sym is))

pub number-is : (digits : List ℕ) (n : ℕ) → n < 2 ^ 64 → digits ≡ decimal n → publication_number_in digits ≡ Some n
unfolding publication_number_in
number-is digits n fits is =
    let value : digits_value 10 digits ≡ n = ap (digits_value 10) is ∙ (decimal_is_IsNumeral n fits).1 in
    let same : bytes_eq (decimal n) digits ≡ true = (bytes_eq-Decides (decimal n) digits).1 (sym is) in
    let tests : (nat_lt n (2 ^ 64) && bytes_eq (decimal n) digits) ≡ true = rw (lt-ltb n (2 ^ 64) fits) same in
    ap (λ v. cond (nat_lt v (2 ^ 64) && bytes_eq (decimal v) digits) (Some v) None) value ∙ ap (λ b. cond b (Some n) None) tests

pub record NumberTaken (digits : List ℕ) (n : ℕ) : Type 0 where
  pub is : digits ≡ decimal n
  pub fits : n < 2 ^ 64

pub number-taken : (digits : List ℕ) (n : ℕ) → publication_number_in digits ≡ Some n → NumberTaken digits n
unfolding publication_number_in
number-taken digits n is = go (nat_lt v (2 ^ 64) && bytes_eq (decimal v) digits) refl is
  where
    v : ℕ
    v = digits_value 10 digits

    go : (b : Bool) → (nat_lt (digits_value 10 digits) (2 ^ 64) && bytes_eq (decimal (digits_value 10 digits)) digits) ≡ b → cond b (Some (digits_value 10 digits)) None ≡ Some n → NumberTaken digits n
    go true tests found =
        let value : digits_value 10 digits ≡ n = ap (λ o. unwrap_or o (digits_value 10 digits)) found in
        let both = parts (nat_lt (digits_value 10 digits) (2 ^ 64)) (bytes_eq (decimal (digits_value 10 digits)) digits) tests in
        let less : digits_value 10 digits < 2 ^ 64 = ltb-true (digits_value 10 digits) (2 ^ 64) both.0 in
        record {
          is = sym ((bytes_eq-Decides (decimal (digits_value 10 digits)) digits).0 both.1) ∙ ap decimal value;
          fits = subst (λ k. k < 2 ^ 64) value less;
        }
    go false tests found = absurd (none-some n found)

pub number-none : (digits : List ℕ) → ((n : ℕ) → n < 2 ^ 64 → digits ≡ decimal n → ⊥) → publication_number_in digits ≡ None
number-none digits never = go (publication_number_in digits) refl
  where
    go : (found : Option ℕ) → publication_number_in digits ≡ found → found ≡ None
    go None is = refl
    go (Some n) is = let taken = number-taken digits n is in absurd (never n taken.fits taken.is)

pub no_text : (digits : List ℕ) → (IsUtf8 digits → ⊥) → publication_number_in digits ≡ None
no_text digits no_utf8 = number-none digits (λ n fits is. no_utf8 (subst IsUtf8 (sym is) (IsUtf8-from_ascii (decimal n) (IsAscii-decimal n fits))))

pub no_number : {E : Type 0} (digits text : List ℕ) (read : Result ℕ E) (fault : E) → text ≡ digits → ParsesUnsigned 64 10 text read → read ≡ Err fault → publication_number_in digits ≡ None
no_number digits text read fault same parses is =
    number-none digits (λ n fits written. let found = parse-decimal 64 n text read fits fits (same ∙ written) parses in err_ok n (sym is ∙ found))
  where
    err_ok : (n : ℕ) → Err fault ≡ Ok n → ⊥
    err_ok n both = cc

pub this_number : (digits shown : List ℕ) (number : ℕ) → number < 2 ^ 64 → shown ≡ decimal number → bytes_eq shown digits ≡ true → publication_number_in digits ≡ Some number
this_number digits shown number fits shows same = number-is digits number fits (sym ((bytes_eq-Decides shown digits).0 same) ∙ shows)

pub number-by : (bytes digits rest : List ℕ) (n : ℕ) → n ≤ length bytes → ((k : ℕ) → k < n → is_ascii_digit (get_or bytes k 0) ≡ true)
    → (n < length bytes → is_ascii_digit (get_or bytes n 0) ≡ false) → digits ≡ take n bytes → rest ≡ drop n bytes
    → number_from bytes ≡ option_map (λ number. (number, rest)) (publication_number_in digits)
unfolding number_from
number-by bytes digits rest n fits before stop front behind =
    let count : prefix_len is_ascii_digit bytes ≡ n = prefix_len_is is_ascii_digit bytes n 0 fits before stop in
    ap (λ k. option_map {U = ℕ × List ℕ} (λ number. (number, drop k bytes)) (publication_number_in (take k bytes))) count
    ∙ ap (λ r. option_map {U = ℕ × List ℕ} (λ number. (number, r)) (publication_number_in (take n bytes))) (sym behind)
    ∙ ap (λ d. option_map {U = ℕ × List ℕ} (λ number. (number, rest)) (publication_number_in d)) (sym front)

-- ---- moments

pub moment-some : (text shown : List ℕ) (moment : ℤ) → IsUtf8 text → Some moment ≡ read_moment text → shown ≡ moment_text moment → bytes_eq shown text ≡ true
    → printed_moment text ≡ Some moment
moment-some text shown moment utf8 reads shows same =
    let printed : bytes_eq (moment_text moment) text ≡ true = ap (λ s. bytes_eq s text) (sym shows) ∙ same in
    rw (is_utf8-from_IsUtf8 text utf8, sym reads, printed)

pub moment-unread : (text : List ℕ) → None ≡ read_moment text → printed_moment text ≡ None
moment-unread text reads = go (is_utf8 text)
  where
    go : (b : Bool) → cond b (option_and_then (λ moment. cond (bytes_eq (moment_text moment) text) (Some moment) None) (read_moment text)) None ≡ None
    go true = rw (sym reads)
    go false = refl

pub moment-other : (text shown : List ℕ) (moment : ℤ) → Some moment ≡ read_moment text → shown ≡ moment_text moment → bytes_eq shown text ≡ false → printed_moment text ≡ None
moment-other text shown moment reads shows differs = go (is_utf8 text)
  where
    printed : bytes_eq (moment_text moment) text ≡ false
    printed = ap (λ s. bytes_eq s text) (sym shows) ∙ differs

    go : (b : Bool) → cond b (option_and_then (λ m. cond (bytes_eq (moment_text m) text) (Some m) None) (read_moment text)) None ≡ None
    go true = rw (sym reads, printed)
    go false = refl

pub moment-no_text : (text : List ℕ) → (IsUtf8 text → ⊥) → printed_moment text ≡ None
moment-no_text text never = go (is_utf8 text) refl
  where
    go : (b : Bool) → is_utf8 text ≡ b → printed_moment text ≡ None
    go true is = absurd (never (IsUtf8-from_is_utf8 text is))
    go false is = rw is

-- ---- reading numbers

pub other_number : {E : Type 0} (digits text shown : List ℕ) (read : Result ℕ E) (number : ℕ) → text ≡ digits → ParsesUnsigned 64 10 text read → read ≡ Ok number → shown ≡ decimal number
    → bytes_eq shown digits ≡ false → publication_number_in digits ≡ None
other_number digits text shown read number same parses is shows differs = number-none digits apart
  where
    found : (n : ℕ) → n < 2 ^ 64 → digits ≡ decimal n → read ≡ Ok n
    found n fits written = parse-decimal 64 n text read fits fits (same ∙ written) parses

    same_ok : (n : ℕ) → read ≡ Ok n → number ≡ n
    same_ok n reads = cc

    shown_is : (n : ℕ) → number ≡ n → digits ≡ decimal n → shown ≡ digits
    shown_is n number_is written = shows ∙ ap decimal number_is ∙ sym written

    apart : (n : ℕ) → n < 2 ^ 64 → digits ≡ decimal n → ⊥
    apart n fits written = true≢false (sym ((bytes_eq-Decides shown digits).1 (shown_is n (same_ok n (found n fits written)) written)) ∙ differs)
