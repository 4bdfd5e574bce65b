-- Texts of several codes: what precedes a space, and what follows it.
use Rattle.std.proofs.Common.{◌≡◌, ◌<◌, ◌≤◌, ◌+◌, ℕ, suc, List, [], ◌∷◌, Bool, true, false, cond, not, length, take, drop, Option, Some, None, refl, sym, ap, subst, nat_lt, ◌∙◌, arith, lit<}
use Rattle.std.specs.Prelude.{◌==◌, ◌&&◌}
use Rattle.std.specs.List.{list_all, list_any, position, position_or_len}
use Rattle.std.specs.Int.{is_in_range}
use Rattle.std.specs.Str.{bytes_eq}
use Rattle.std.specs.Char.{is_ascii_digit}
use Rattle.std.proofs.lemmas.Bool.{and_parts, eqb-true, false≢true}
use Rattle.std.proofs.lemmas.Bool.Decides.{nat_tests}
use Rattle.std.proofs.lemmas.List.{take-append-drop}
use Rattle.std.proofs.lemmas.List.Folds.{list_all-append}
use Rattle.lei_shapes.specs.Shape.{are_different, between_spaces, is_capital_or_digit, is_code, with_byte}

-- a text with a space is cut there
cut : (text : List ℕ) → position_or_len (λ byte. byte == 32) text < length text
    → between_spaces text ≡ take (position_or_len (λ byte. byte == 32) text) text ∷ between_spaces (drop (suc (position_or_len (λ byte. byte == 32) text)) text)
cut [] within = absurd (omega (arith, within))
cut (byte ∷ text) within =
    let later = position_or_len (λ byte. byte == 32) text in
    elim (byte == 32) as (λ b. cond (not b) (1 + later) 0 < length (byte ∷ text)
    → cond b ([] ∷ between_spaces text) (with_byte byte (between_spaces text))
    ≡ take (cond (not b) (1 + later) 0) (byte ∷ text) ∷ between_spaces (drop (suc (cond (not b) (1 + later) 0)) (byte ∷ text))) [
      | true ↦ λ less. refl
      | false ↦ λ less.
          subst (λ n. with_byte byte (between_spaces text) ≡ take n (byte ∷ text) ∷ between_spaces (drop (suc n) (byte ∷ text))) (next later)
          (ap (with_byte byte) (cut text (omega (arith, less))))
    ] within
  where
    next : (n : ℕ) → suc n ≡ 1 + n
    next n = omega arith

-- a text without a space stays whole
whole : (text : List ℕ) → length text ≤ position_or_len (λ byte. byte == 32) text → between_spaces text ≡ text ∷ []
whole [] none = refl
whole (byte ∷ text) none =
    let later = position_or_len (λ byte. byte == 32) text in
    elim (byte == 32) as (λ b. length (byte ∷ text) ≤ cond (not b) (1 + later) 0
    → cond b ([] ∷ between_spaces text) (with_byte byte (between_spaces text)) ≡ (byte ∷ text) ∷ []) [
      | true ↦ λ less. absurd (omega (arith, less))
      | false ↦ λ less. ap (with_byte byte) (whole text (omega (arith, less)))
    ] none

-- What the first space of a text says of the texts between its spaces.
abbrev pub CutAt : List ℕ → Option ℕ → Type 0
CutAt text None = between_spaces text ≡ text ∷ []
CutAt text (Some n) = between_spaces text ≡ take n text ∷ between_spaces (drop (n + 1) text)

pub cut_at : (text : List ℕ) (found : Option ℕ) → found ≡ position (λ byte. byte == 32) text → CutAt text found
cut_at text found is =
    let n = position_or_len (λ byte. byte == 32) text in
    subst (CutAt text) (sym is)
    (elim (nat_lt n (length text)) as (λ b. nat_lt n (length text) ≡ b → CutAt text (cond b (Some n) None)) [
      | true ↦ λ t. cut text (less n (length text) t) ∙ ap (λ k. take n text ∷ between_spaces (drop k text)) (next n)
      | false ↦ λ t. whole text (not_less n (length text) t)
    ] refl)
  where
    less : (a b : ℕ) → nat_lt a b ≡ true → a < b
    less a b t = grind (arith, t)

    not_less : (a b : ℕ) → nat_lt a b ≡ false → b ≤ a
    not_less a b t = grind (arith, t)

    next : (n : ℕ) → suc n ≡ n + 1
    next n = omega arith

-- ---- whether the texts so far and those that are left are one to five codes

abbrev pub fit : ℕ → List (List ℕ) → Bool
fit count texts = is_in_range 1 5 (count + length texts) && list_all is_code texts && are_different texts

never : (a b : Bool) → a && false && b ≡ false
never true b = refl
never false b = refl

never_last : (a b : Bool) → a && b && false ≡ false
never_last true true = refl
never_last true false = refl
never_last false b = refl

pub no_code : (count : ℕ) (texts : List (List ℕ)) (text : List ℕ) (behind : List (List ℕ)) → texts ≡ text ∷ behind → is_code text ≡ false → fit count texts ≡ false
no_code count texts text behind is other =
    ap (fit count) is
    ∙ (ap (λ b. is_in_range 1 5 (count + suc (length behind)) && (b && list_all is_code behind) && are_different (text ∷ behind)) other
    ∙ never (is_in_range 1 5 (count + suc (length behind))) (are_different (text ∷ behind)))

pub twice : (count : ℕ) (texts : List (List ℕ)) (text : List ℕ) (behind : List (List ℕ)) → texts ≡ text ∷ behind → list_any (bytes_eq text) behind ≡ true → fit count texts ≡ false
twice count texts text behind is stands =
    ap (fit count) is
    ∙ (ap (λ b. is_in_range 1 5 (count + suc (length behind)) && list_all is_code (text ∷ behind) && (not b && are_different behind)) stands
    ∙ never_last (is_in_range 1 5 (count + suc (length behind))) (list_all is_code (text ∷ behind)))

pub one_more : (count : ℕ) (texts : List (List ℕ)) (text : List ℕ) (behind : List (List ℕ)) → texts ≡ text ∷ behind → is_code text ≡ true → list_any (bytes_eq text) behind ≡ false
    → fit count texts ≡ fit (count + 1) behind
one_more count texts text behind is code once =
    ap (fit count) is
    ∙ (ap (λ b. is_in_range 1 5 (count + suc (length behind)) && (b && list_all is_code behind) && are_different (text ∷ behind)) code
    ∙ (ap (λ b. is_in_range 1 5 (count + suc (length behind)) && list_all is_code behind && (not b && are_different behind)) once
    ∙ ap (λ n. is_in_range 1 5 n && list_all is_code behind && are_different behind) (moved (length behind))))
  where
    moved : (n : ℕ) → count + suc n ≡ (count + 1) + n
    moved n = omega arith

in_range : (n : ℕ) → 1 ≤ n → n ≤ 5 → is_in_range 1 5 n ≡ true
in_range n least most = grind arith

out_of_range : (n : ℕ) → 5 < n → is_in_range 1 5 n ≡ false
out_of_range n more = grind arith

pub last_one : (count : ℕ) (texts : List (List ℕ)) (text : List ℕ) → texts ≡ text ∷ [] → is_code text ≡ true → count < 5 → fit count texts ≡ true
last_one count texts text is code few =
    one_more count texts text [] is code refl ∙ ap (λ b. b && true && true) (in_range (count + 1 + 0) (omega arith) (omega (arith, few)))

-- there is at least one text between the spaces of a text
some_text : (text : List ℕ) → 0 < length (between_spaces text)
some_text [] = lit< tt
some_text (byte ∷ text) =
    elim (byte == 32) as (λ b. 0 < length (cond b ([] ∷ between_spaces text) (with_byte byte (between_spaces text)))) [
      | true ↦ omega arith
      | false ↦ more (between_spaces text) (some_text text)
    ]
  where
    more : (texts : List (List ℕ)) → 0 < length texts → 0 < length (with_byte byte texts)
    more [] some = some
    more (t ∷ texts) some = some

-- after five codes there is another one
pub too_many : (text : List ℕ) (count : ℕ) → 5 ≤ count → fit count (between_spaces text) ≡ false
too_many text count many =
    ap (λ b. b && list_all is_code (between_spaces text) && are_different (between_spaces text))
    (out_of_range (count + length (between_spaces text)) (omega (arith, many, some_text text)))

-- ---- a code has no space

-- if bytes pass a test that a space doesn't pass, there is no space among them
one_text : (p : ℕ → Bool) → p 32 ≡ false → (text : List ℕ) → list_all p text ≡ true → between_spaces text ≡ text ∷ []
one_text p none [] all = refl
one_text p none (byte ∷ text) all =
    let parts = and_parts (p byte) (list_all p text) all in
    elim (byte == 32) as (λ b. (byte == 32) ≡ b → cond b ([] ∷ between_spaces text) (with_byte byte (between_spaces text)) ≡ (byte ∷ text) ∷ []) [
      | true ↦ λ is. absurd (false≢true (sym none ∙ (ap p (sym (eqb-true byte 32 is)) ∙ parts.0)))
      | false ↦ λ is. ap (with_byte byte) (one_text p none text parts.1)
    ] refl

digit_too : (byte : ℕ) → is_ascii_digit byte ≡ true → is_capital_or_digit byte ≡ true
digit_too byte is = grind (arith, nat_tests)

digits_too : (text : List ℕ) → list_all is_ascii_digit text ≡ true → list_all is_capital_or_digit text ≡ true
digits_too [] all = refl
digits_too (byte ∷ text) all =
    let parts = and_parts (is_ascii_digit byte) (list_all is_ascii_digit text) all in
    rw (digit_too byte parts.0, digits_too text parts.1) refl

-- a code is the only text between its spaces
pub one_code : (text : List ℕ) → is_code text ≡ true → between_spaces text ≡ text ∷ []
one_code text is =
    let outer = and_parts ((length text == 20) && list_all is_capital_or_digit (take 18 text)) (list_all is_ascii_digit (drop 18 text)) is in
    let inner = and_parts (length text == 20) (list_all is_capital_or_digit (take 18 text)) outer.0 in
    one_text is_capital_or_digit refl text
    (ap (list_all is_capital_or_digit) (sym (take-append-drop 18 text))
    ∙ (list_all-append is_capital_or_digit (take 18 text) (drop 18 text) ∙ rw (inner.1, digits_too (drop 18 text) outer.1) refl))
