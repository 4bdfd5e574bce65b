-- A number is that of one list.
use Rattle.std.specs.Prelude.{⊤, Option, Some, None, option_and_then, option_map, ◌&&◌, Bool, true, false, cond, nat_le, nat_lt}
use Rattle.std.specs.List.{list_all}
use Rattle.std.proofs.Common.{◌≡◌, ℕ, zero, suc, ◌+◌, ◌*◌, ◌-◌, ◌<◌, ◌≤◌, List, [], ◌∷◌, ◌++◌, length, get_or, take, drop, refl, ap, sym, subst, ◌∙◌, arith, length-drop}
use Rattle.std.proofs.lemmas.List.{take-append-drop}
use Rattle.std.proofs.lemmas.Bool.{lt-ltb, lt-leb, ltb-true, le-leb, leb-true, leb-false}
use mathlib.Core.Bool.{true≢false}
use Rattle.short_texts.specs.Packed.{number_after, is_short, packed, packed_pair}

-- ---- numbers and digits

abbrev AreBytes : List ℕ → Type 0
AreBytes [] = ⊤
AreBytes (x ∷ xs) = (x < 256) × AreBytes xs

-- equally many digits after two numbers
same_digits : (n m : ℕ) (xs ys : List ℕ) → length xs ≡ length ys → AreBytes xs → AreBytes ys
    → number_after n xs ≡ number_after m ys → (n ≡ m) × (xs ≡ ys)
same_digits n m [] [] same small_xs small_ys is = (is, refl)
same_digits n m [] (y ∷ ys) same small_xs small_ys is = absurd (omega arith)
same_digits n m (x ∷ xs) [] same small_xs small_ys is = absurd (omega arith)
same_digits n m (x ∷ xs) (y ∷ ys) same small_xs small_ys is =
    let rest = same_digits (n * 256 + x) (m * 256 + y) xs ys (omega arith) small_xs.1 small_ys.1 is in
    let fronts : n * 256 + x ≡ m * 256 + y = rest.0 in
    let small_x : x < 256 = small_xs.0 in
    let small_y : y < 256 = small_ys.0 in
    let first : x ≡ y = omega arith in
    let before : n ≡ m = omega arith in
    (before, λ j. first j ∷ rest.1 j)

number_after-append : (n : ℕ) (xs ys : List ℕ) → number_after n (xs ++ ys) ≡ number_after (number_after n xs) ys
number_after-append n [] ys = refl
number_after-append n (x ∷ xs) ys = number_after-append (n * 256 + x) xs ys

number_after-grows : (n : ℕ) (xs : List ℕ) → n ≤ number_after n xs
number_after-grows n [] = omega arith
number_after-grows n (x ∷ xs) = let more = number_after-grows (n * 256 + x) xs in omega arith

AreBytes-drop : (k : ℕ) (xs : List ℕ) → AreBytes xs → AreBytes (drop k xs)
AreBytes-drop zero xs small = small
AreBytes-drop (suc k) [] small = tt
AreBytes-drop (suc k) (x ∷ xs) small = AreBytes-drop k xs small.1

-- nothing comes before digits that make 1
nothing_before : (xs : List ℕ) → 1 ≡ number_after 1 xs → xs ≡ []
nothing_before [] is = refl
nothing_before (x ∷ xs) is = let more = number_after-grows (1 * 256 + x) xs in absurd (omega arith)

-- the shorter list is the end of the longer one
longer_same : (xs ys : List ℕ) → length xs ≤ length ys → AreBytes xs → AreBytes ys → number_after 1 xs ≡ number_after 1 ys → xs ≡ ys
longer_same xs ys le small_xs small_ys is =
    let k = length ys - length xs in
    let parts : take k ys ++ drop k ys ≡ ys = take-append-drop k ys in
    let len : length xs ≡ length (drop k ys) = omega (arith, length-drop k ys) in
    let split = is ∙ ap (number_after 1) (sym parts) ∙ number_after-append 1 (take k ys) (drop k ys) in
    let both = same_digits 1 (number_after 1 (take k ys)) xs (drop k ys) len small_xs (AreBytes-drop k ys small_ys) split in
    both.1 ∙ (ap (λ front. front ++ drop k ys) (sym (nothing_before (take k ys) both.0)) ∙ parts)

same_list : (xs ys : List ℕ) → AreBytes xs → AreBytes ys → number_after 1 xs ≡ number_after 1 ys → xs ≡ ys
same_list xs ys small_xs small_ys is = by (nat_le (length xs) (length ys)) refl
  where
    by : (b : Bool) → nat_le (length xs) (length ys) ≡ b → xs ≡ ys
    by true le = longer_same xs ys (leb-true (length xs) (length ys) le) small_xs small_ys is
    by false less =
        let after : length ys < length xs = leb-false (length xs) (length ys) less in
        sym (longer_same ys xs (omega arith) small_ys small_xs (sym is))

-- ---- the number of a short list

abbrev IsNone : {X : Type 0} → Option X → Type 0
IsNone None = ⊤
IsNone (Some x) = ⊥

no_some : {X : Type 0} (x : X) → None ≡ Some x → ⊥
no_some x is = subst IsNone is tt

abbrev value_of : {X : Type 0} → X → Option X → X
value_of d None = d
value_of d (Some x) = x

both_parts : (a b : Bool) → (a && b) ≡ true → (a ≡ true) × (b ≡ true)
both_parts true b is = (refl, is)
both_parts false b is = absurd (true≢false (sym is))

bytes_from : (xs : List ℕ) → list_all (λ byte. nat_lt byte 256) xs ≡ true → AreBytes xs
bytes_from [] is = tt
bytes_from (x ∷ xs) is =
    let parts = both_parts (nat_lt x 256) (list_all (λ byte. nat_lt byte 256) xs) is in
    (ltb-true x 256 parts.0, bytes_from xs parts.1)

-- what has a number is short, and this is its number
record IsNumberOf (text : List ℕ) (number : ℕ) : Type 0 where
  small : AreBytes text
  value : number_after 1 text ≡ number

number_from : (text : List ℕ) (number : ℕ) → packed text ≡ Some number → IsNumberOf text number
unfolding packed
number_from text number is = by (is_short text) refl is
  where
    by : (b : Bool) → is_short text ≡ b → cond b (Some (number_after 1 text)) None ≡ Some number → IsNumberOf text number
    by true short same = record {
      small = bytes_from text (both_parts (nat_le (length text) 15) (list_all (λ byte. nat_lt byte 256) text) short).1;
      value = ap (value_of 0) same;
    }
    by false short same = absurd (no_some number same)

pub packed-one : (number : ℕ) (text own : List ℕ) → packed text ≡ Some number → packed own ≡ Some number → text ≡ own
packed-one number text own is are =
    let first = number_from text number is in
    let second = number_from own number are in
    same_list text own first.small second.small (first.value ∙ sym second.value)

-- both parts of a pair of numbers
record HasNumbers (text other : List ℕ) (numbers : ℕ × ℕ) : Type 0 where
  first : packed text ≡ Some numbers.0
  second : packed other ≡ Some numbers.1

numbers_from : (text other : List ℕ) (numbers : ℕ × ℕ) → packed_pair text other ≡ Some numbers → HasNumbers text other numbers
unfolding packed_pair
numbers_from text other numbers is = by (packed text) (packed other) refl refl is
  where
    by : (o p : Option ℕ) → packed text ≡ o → packed other ≡ p
        → option_and_then (λ n. option_map (λ m. (n, m)) p) o ≡ Some numbers → HasNumbers text other numbers
    by None p are they same = absurd (no_some numbers same)
    by (Some n) None are they same = absurd (no_some numbers same)
    by (Some n) (Some m) are they same = record {
      first = are ∙ ap (λ o. Some ((value_of numbers o).0)) same;
      second = they ∙ ap (λ o. Some ((value_of numbers o).1)) same;
    }

pub packed_pair-one : (numbers : ℕ × ℕ) (text other own second : List ℕ) → packed_pair text other ≡ Some numbers
    → packed_pair own second ≡ Some numbers → (text ≡ own) × (other ≡ second)
packed_pair-one numbers text other own second is are =
    let here = numbers_from text other numbers is in
    let there = numbers_from own second numbers are in
    (packed-one numbers.0 text own here.first there.first, packed-one numbers.1 other second here.second there.second)

-- ---- how large a number may be

-- a number of this many digits, of which the first is 1, is below this
abbrev pub limit : ℕ → ℕ
limit zero = 2
limit (suc count) = limit count * 256

limit-more : (k n m : ℕ) → m ≡ k + n → limit n ≤ limit m
limit-more zero n m is =
    let same : n ≡ m = omega arith in
    let least : limit n ≤ limit n = omega arith in
    subst (λ j. limit n ≤ limit j) same least
limit-more (suc k) n m is =
    let same : suc (k + n) ≡ m = omega arith in
    let less = limit-more k n (k + n) refl in
    let more : limit n ≤ limit (k + n) * 256 = omega arith in
    subst (λ j. limit n ≤ limit j) same more

-- a further digit fits, if there is one
pub room_left : (number index count : ℕ) → number < limit index → index < count → count ≤ 15
    → number * 256 + 255 < 340_282_366_920_938_463_463_374_607_431_768_211_456
room_left number index count below within short =
    let top : limit index ≤ limit 14 = limit-more (14 - index) index 14 (omega arith) in
    omega arith

digits-from : (xs : List ℕ) → ((k : ℕ) → k < length xs → get_or xs k 0 < 256) → list_all (λ byte. nat_lt byte 256) xs ≡ true
digits-from [] small = refl
digits-from (x ∷ xs) small =
    (λ i. lt-ltb x 256 (small 0 (omega arith)) i && digits-from xs (λ k l. small (suc k) (omega arith)) i)

pub short_has : (text : List ℕ) (number : ℕ) → length text ≤ 15 → ((k : ℕ) → k < length text → get_or text k 0 < 256)
    → number ≡ number_after 1 text → Some number ≡ packed text
unfolding packed
short_has text number short small is =
    ap Some is ∙ ap (λ b. cond b (Some (number_after 1 text)) None) (sym (λ i. le-leb (length text) 15 short i && digits-from text small i))

pub long_has : (text : List ℕ) → 15 < length text → None ≡ packed text
unfolding packed
long_has text long =
    ap (λ b. cond (b && list_all (λ byte. nat_lt byte 256) text) (Some (number_after 1 text)) None) (sym (lt-leb (length text) 15 long))
