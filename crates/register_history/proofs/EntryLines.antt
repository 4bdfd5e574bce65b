-- What the line of an entry shows of it.
use Rattle.std.proofs.Common.{◌≡◌, ℕ, zero, suc, ◌+◌, ◌/◌, ◌%◌, ◌<◌, ◌≤◌, ◌==◌, nat_lt, ℤ, true, false, cond, List, [], ◌∷◌, ◌++◌, length, drop, take, Some, inl, inr, refl, sym, ap, subst, ◌∙◌, arith}
use Rattle.std.specs.Fmt.{decimal, digit_glyph, digits, digits_onto}
use Rattle.std.specs.List.{AllByRecursion}
use Rattle.std.proofs.lemmas.Bool.Decides.{eqb_tells, nat_tests}
use Rattle.std.proofs.lemmas.Fmt.{decimal_digit}
use Rattle.std.proofs.Math.Seq.{drop-append_seam, take-append_seam}
use Rattle.lei_shapes.specs.Clock.{moment_text}
use Rattle.lei_shapes.specs.Moment.{IsMoment, read_moment}
use Rattle.lei_shapes.proofs.MomentLemmas.{is_moment-true, read_moment-text}
use Rattle.lei_values.specs.declared.entry.KeptEntry.{KeptEntry}
use Rattle.register_history.specs.Damage.{entry_line, kind_word, moment_word, or_dash}

-- ---- parts of lists

-- the first byte, or 0 if there is none
abbrev pub first : List ℕ → ℕ
first [] = 0
first (b ∷ bytes) = b

-- lists with the same front differ after it
behind : (front a b : List ℕ) → front ++ a ≡ front ++ b → a ≡ b
behind front a b is = sym (drop-append_seam front a) ∙ ap (drop (length front)) is ∙ drop-append_seam front b

tail_same : (b : ℕ) (xs ys : List ℕ) → b ∷ xs ≡ b ∷ ys → xs ≡ ys
tail_same b xs ys is = cc

-- and after a byte that follows it
pub past : (front a b : List ℕ) → front ++ 32 ∷ a ≡ front ++ 32 ∷ b → a ≡ b
past front a b is = tail_same 32 a b (behind front (32 ∷ a) (32 ∷ b) is)

-- fronts of the same length are equal if the lists are
fronts : (one other a b : List ℕ) → length one ≡ length other → one ++ a ≡ other ++ b → one ≡ other
fronts one other a b same is =
    sym (take-append_seam one a) ∙ ap (take (length one)) is ∙ ap (λ n. take n (other ++ b)) same ∙ take-append_seam other b

-- ---- decimals

-- a byte of a decimal
abbrev pub IsDigit : ℕ → Type 0
IsDigit b = (48 ≤ b) × (b ≤ 57)

digits-nil : (n : ℕ) → digits_onto 64 10 false n [] ≡ decimal n
unfolding digits
digits-nil n = refl

digit-of : (n : ℕ) → IsDigit (digit_glyph false (n % 10))
digit-of n =
    let small : nat_lt (n % 10) 10 ≡ true = grind (arith, nat_tests) in
    rw small (omega arith, omega arith)

onto-digits : (k n : ℕ) (text : List ℕ) → AllByRecursion IsDigit text → AllByRecursion IsDigit (digits_onto k 10 false n text)
onto-digits zero n text all = all
onto-digits (suc k) n text all =
    let glyph = digit_glyph false (n % 10) in
    elim (n / 10 == 0) as (λ b. AllByRecursion IsDigit (cond b (glyph ∷ text) (digits_onto k 10 false (n / 10) (glyph ∷ text)))) [
      | true ↦ (digit-of n, all)
      | false ↦ onto-digits k (n / 10) (glyph ∷ text) (digit-of n, all)
    ]

pub all-digits : (n : ℕ) → AllByRecursion IsDigit (decimal n)
all-digits n = subst (AllByRecursion IsDigit) (digits-nil n) (onto-digits 64 n [] tt)

onto-first : (k n : ℕ) (text : List ℕ) → IsDigit (first text) → IsDigit (first (digits_onto k 10 false n text))
onto-first zero n text is = is
onto-first (suc k) n text is =
    let glyph = digit_glyph false (n % 10) in
    elim (n / 10 == 0) as (λ b. IsDigit (first (cond b (glyph ∷ text) (digits_onto k 10 false (n / 10) (glyph ∷ text))))) [
      | true ↦ digit-of n
      | false ↦ onto-first k (n / 10) (glyph ∷ text) (digit-of n)
    ]

some-first : (k n : ℕ) → IsDigit (first (digits_onto (suc k) 10 false n []))
some-first k n =
    let glyph = digit_glyph false (n % 10) in
    elim (n / 10 == 0) as (λ b. IsDigit (first (cond b (glyph ∷ []) (digits_onto k 10 false (n / 10) (glyph ∷ []))))) [
      | true ↦ digit-of n
      | false ↦ onto-first k (n / 10) (glyph ∷ []) (digit-of n)
    ]

first-digit : (n : ℕ) → IsDigit (first (decimal n))
first-digit n = subst (λ text. IsDigit (first text)) (digits-nil n) (some-first 63 n)

onto-longer : (k n : ℕ) (text : List ℕ) → length text ≤ length (digits_onto k 10 false n text)
onto-longer zero n text = omega arith
onto-longer (suc k) n text =
    let glyph = digit_glyph false (n % 10) in
    elim (n / 10 == 0) as (λ b. length text ≤ length (cond b (glyph ∷ text) (digits_onto k 10 false (n / 10) (glyph ∷ text)))) [
      | true ↦ omega arith
      | false ↦ omega (arith, onto-longer k (n / 10) (glyph ∷ text))
    ]

onto-more : (k n : ℕ) (text : List ℕ) → length text < length (digits_onto (suc k) 10 false n text)
onto-more k n text =
    let glyph = digit_glyph false (n % 10) in
    elim (n / 10 == 0) as (λ b. length text < length (cond b (glyph ∷ text) (digits_onto k 10 false (n / 10) (glyph ∷ text)))) [
      | true ↦ omega arith
      | false ↦ omega (arith, onto-longer k (n / 10) (glyph ∷ text))
    ]

onto-step : (k n : ℕ) (text : List ℕ) → n / 10 == 0 ≡ false → digits_onto (suc k) 10 false n text ≡ digits_onto k 10 false (n / 10) (digit_glyph false (n % 10) ∷ text)
onto-step k n text more = ap (λ b. cond b (digit_glyph false (n % 10) ∷ text) (digits_onto k 10 false (n / 10) (digit_glyph false (n % 10) ∷ text))) more

-- a number with at least two digits
two-digits : (n : ℕ) → n / 10 == 0 ≡ false → 1 < length (decimal n)
two-digits n more = subst (λ text. 1 < length text) (sym (onto-step 63 n [] more) ∙ digits-nil n) (onto-more 62 (n / 10) (digit_glyph false (n % 10) ∷ []))

-- the decimal of a number with one digit is its own
one-digit : (n m : ℕ) → m < 10 → decimal n ≡ decimal m → n ≡ m
one-digit n m small is = elim (eqb_tells (n / 10) 0) [
  | inl one ↦
      let low : n < 10 = omega (arith, one.1) in
      let both : (48 + n) ∷ [] ≡ (48 + m) ∷ [] = sym (decimal_digit n low) ∙ is ∙ decimal_digit m small in
      let bytes : 48 + n ≡ 48 + m = ap first both in
      omega (arith, bytes)
  | inr more ↦
      let long = two-digits n more.0 in
      let short : length (decimal n) ≡ 1 = ap length (is ∙ decimal_digit m small) in
      absurd (omega (arith, long, short))
]

-- a decimal ends before a space
pub until_space : (one other a b : List ℕ) → AllByRecursion IsDigit one → AllByRecursion IsDigit other → one ++ 32 ∷ a ≡ other ++ 32 ∷ b → (one ≡ other) × (a ≡ b)
until_space [] [] a b of_one of_other is = (refl, tail_same 32 a b is)
until_space [] (d ∷ other) a b of_one of_other is = (let space : 32 ≡ d = ap first is in absurd (omega (arith, space, of_other.0.0)))
until_space (c ∷ one) [] a b of_one of_other is = (let space : c ≡ 32 = ap first is in absurd (omega (arith, space, of_one.0.0)))
until_space (c ∷ one) (d ∷ other) a b of_one of_other is =
    let bytes : c ≡ d = ap first is in
    let rest : one ++ 32 ∷ a ≡ other ++ 32 ∷ b = cc in
    let both = until_space one other a b of_one.1 of_other.1 rest in
    ((λ i. bytes i ∷ both.0 i), both.1)

-- ---- moments

-- each text of a moment has 20 bytes
text-length : (s : ℤ) → length (moment_text s) ≡ 20
unfolding moment_text
text-length s = refl

word-text : (s : ℤ) → IsMoment s → moment_word s ≡ moment_text s
word-text s is = rw (is_moment-true s is) refl

-- the word of a moment is its own
moments-same : (s t : ℤ) (a b : List ℕ) → IsMoment s → IsMoment t → moment_word s ++ 32 ∷ a ≡ moment_word t ++ 32 ∷ b → s ≡ t
moments-same s t a b of_s of_t is =
    let texts : moment_text s ++ 32 ∷ a ≡ moment_text t ++ 32 ∷ b = ap (λ word. word ++ 32 ∷ a) (sym (word-text s of_s)) ∙ is ∙ ap (λ word. word ++ 32 ∷ b) (word-text t of_t) in
    let same = fronts (moment_text s) (moment_text t) (32 ∷ a) (32 ∷ b) (text-length s ∙ sym (text-length t)) texts in
    let both : Some s ≡ Some t = sym (read_moment-text s of_s) ∙ ap read_moment same ∙ read_moment-text t of_t in
    cc

-- ---- lines

-- what precedes the moment of an entry, followed by a text
abbrev led : ℕ → ℕ → List ℕ → ℕ → List ℕ → List ℕ
led seq kind office number text = decimal seq ++ 32 ∷ (kind_word kind ++ 32 ∷ (or_dash office ++ 32 ∷ (decimal number ++ 32 ∷ text)))

-- its moment, and what follows it
abbrev ended : KeptEntry → List ℕ
ended e = moment_word e.moment ++ 32 ∷ (decimal e.rules ++ 32 ∷ e.answer)

line-is : (e : KeptEntry) → entry_line e ≡ led e.seq e.kind e.office e.number (ended e)
unfolding entry_line
line-is e = refl

-- a line starts with a digit
pub line-begins : (e : KeptEntry) → IsDigit (first (entry_line e))
line-begins e = subst (λ text. IsDigit (first text)) (sym (line-is e)) (front (decimal e.seq) _ (first-digit e.seq))
  where
    front : (text rest : List ℕ) → IsDigit (first text) → IsDigit (first (text ++ rest))
    front [] rest is = absurd (omega (arith, is.0))
    front (b ∷ text) rest is = is

led-same : (seq kind number : ℕ) (office a b : List ℕ) → led seq kind office number a ≡ led seq kind office number b → a ≡ b
led-same seq kind number office a b is =
    past (decimal number) a b
    (past (or_dash office) (decimal number ++ 32 ∷ a) (decimal number ++ 32 ∷ b)
    (past (kind_word kind) (or_dash office ++ 32 ∷ (decimal number ++ 32 ∷ a)) (or_dash office ++ 32 ∷ (decimal number ++ 32 ∷ b))
    (past (decimal seq) (kind_word kind ++ 32 ∷ (or_dash office ++ 32 ∷ (decimal number ++ 32 ∷ a))) (kind_word kind ++ 32 ∷ (or_dash office ++ 32 ∷ (decimal number ++ 32 ∷ b))) is)))

-- If two entries have the same number, kind, office, own number and body, their lines differ if the entries do,
-- provided that their moments are moments and the rules of one have one digit.
pub line-tells : (e made : KeptEntry) → e.seq ≡ made.seq → e.kind ≡ made.kind → e.office ≡ made.office → e.number ≡ made.number → e.body ≡ made.body → IsMoment e.moment → IsMoment made.moment → made.rules < 10
    → entry_line e ≡ entry_line made → made ≡ e
line-tells e made seq kind office number body moment made_moment rules is =
    let led_is : led e.seq e.kind e.office e.number (ended e) ≡ led e.seq e.kind e.office e.number (ended made) =
    sym (line-is e) ∙ is ∙ line-is made ∙ (λ i. led (sym seq i) (sym kind i) (sym office i) (sym number i) (ended made)) in
    let ends = led-same e.seq e.kind e.number e.office (ended e) (ended made) led_is in
    let a = decimal e.rules ++ 32 ∷ e.answer in
    let b = decimal made.rules ++ 32 ∷ made.answer in
    let moments = moments-same e.moment made.moment a b moment made_moment ends in
    let rest : a ≡ b = past (moment_word e.moment) a b (ends ∙ ap (λ m. moment_word m ++ 32 ∷ b) (sym moments)) in
    let both = until_space (decimal e.rules) (decimal made.rules) e.answer made.answer (all-digits e.rules) (all-digits made.rules) rest in
    let of_rules = one-digit e.rules made.rules rules both.0 in
    λ i. record { seq = sym seq i; kind = sym kind i; office = sym office i; number = sym number i; moment = sym moments i; rules = sym of_rules i; body = sym body i; answer = sym both.1 i }
