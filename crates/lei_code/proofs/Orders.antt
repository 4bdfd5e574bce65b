-- Texts of equal length are in the order of the numbers that their bytes form.
use Rattle.std.proofs.Common.{◌≡◌, ℕ, zero, suc, ◌+◌, ◌*◌, ◌<◌, ◌≤◌, List, [], ◌∷◌, ◌++◌, length, get_or, take, drop, refl, ap, sym, ◌∙◌, arith, drop-cons, length-drop}
use Rattle.std.proofs.Math.Seq.{get_or-drop}
use Rattle.std.proofs.lemmas.List.{take-append-drop, drop_all, get_or-take, length-take-le}
use Rattle.std.specs.Cmp.{nat_cmp_is, ranks}
use Rattle.std.specs.Cmp.Lexicographic.{slice_cmp}
use Rattle.std.specs.declared.cmp.Ordering.{Ordering}
use Rattle.std.specs.declared.cmp.Ordering.TheVariants.{Less, Equal, Greater}
use Rattle.std.specs.Int.{w32, w128, from_be_bytes}
use Rattle.std.specs.Ordering.{nat_cmp, ordering_then, MatchOrdering}

then_assoc : (a b c : Ordering) → ordering_then (ordering_then a b) c ≡ ordering_then a (ordering_then b c)
then_assoc Less b c = refl
then_assoc Equal b c = refl
then_assoc Greater b c = refl

then_equal : (a : Ordering) → ordering_then a Equal ≡ a
then_equal Less = refl
then_equal Equal = refl
then_equal Greater = refl

-- the first decides if it isn't `Equal`
then_apart : (a b : Ordering) → (a ≡ Equal → ⊥) → a ≡ ordering_then a b
then_apart Less b apart = refl
then_apart Equal b apart = absurd (apart refl)
then_apart Greater b apart = refl

-- the front decides if both are equally long and differ, and otherwise the rest
slice_cmp-append : (xs ys zs ws : List ℕ) → length xs ≡ length ys → slice_cmp nat_cmp (xs ++ zs) (ys ++ ws) ≡ ordering_then (slice_cmp nat_cmp xs ys) (slice_cmp nat_cmp zs ws)
slice_cmp-append [] [] zs ws same = refl
slice_cmp-append [] (y ∷ ys) zs ws same = absurd (omega arith)
slice_cmp-append (x ∷ xs) [] zs ws same = absurd (omega arith)
slice_cmp-append (x ∷ xs) (y ∷ ys) zs ws same =
    ap (ordering_then (nat_cmp x y)) (slice_cmp-append xs ys zs ws (omega arith))
    ∙ sym (then_assoc (nat_cmp x y) (slice_cmp nat_cmp xs ys) (slice_cmp nat_cmp zs ws))

-- one more digit, in base 256
nat_cmp-digit : (a b x y : ℕ) → x < 256 → y < 256 → nat_cmp (a * 256 + x) (b * 256 + y) ≡ ordering_then (nat_cmp a b) (nat_cmp x y)
nat_cmp-digit a b x y small_x small_y = sym (nat_cmp_is _ _ _ (by (nat_cmp a b) (nat_cmp x y) (ranks a b) (ranks x y)))
  where
    by : (high low : Ordering) → MatchOrdering high (a < b) (a ≡ b) (b < a) → MatchOrdering low (x < y) (x ≡ y) (y < x)
        → MatchOrdering (ordering_then high low) (a * 256 + x < b * 256 + y) (a * 256 + x ≡ b * 256 + y) (b * 256 + y < a * 256 + x)
    by Less low h l = let e : a < b = h in omega arith
    by Greater low h l = let e : b < a = h in omega arith
    by Equal Less h l = let e : a ≡ b = h in let f : x < y = l in omega arith
    by Equal Equal h l = let e : a ≡ b = h in let f : x ≡ y = l in omega arith
    by Equal Greater h l = let e : a ≡ b = h in let f : y < x = l in omega arith

-- the number whose digits in base 256 are those of n and then the bytes
abbrev after : ℕ → List ℕ → ℕ
after n [] = n
after n (x ∷ xs) = after (n * 256 + x) xs

-- each element is a byte
abbrev AreBytes : List ℕ → Type 0
AreBytes xs = (k : ℕ) → k < length xs → get_or xs k 0 < 256

-- the numbers before decide, and otherwise the equally many bytes after them
nat_cmp-after : (a b : ℕ) (xs ys : List ℕ) → length xs ≡ length ys → AreBytes xs → AreBytes ys → nat_cmp (after a xs) (after b ys) ≡ ordering_then (nat_cmp a b) (slice_cmp nat_cmp xs ys)
nat_cmp-after a b [] [] same small_xs small_ys = sym (then_equal (nat_cmp a b))
nat_cmp-after a b [] (y ∷ ys) same small_xs small_ys = absurd (omega arith)
nat_cmp-after a b (x ∷ xs) [] same small_xs small_ys = absurd (omega arith)
nat_cmp-after a b (x ∷ xs) (y ∷ ys) same small_xs small_ys =
    nat_cmp-after (a * 256 + x) (b * 256 + y) xs ys (omega arith) (λ k l. small_xs (suc k) (omega arith)) (λ k l. small_ys (suc k) (omega arith))
    ∙ ap (λ o. ordering_then o (slice_cmp nat_cmp xs ys)) (nat_cmp-digit a b x y (small_xs 0 (omega arith)) (small_ys 0 (omega arith)))
    ∙ then_assoc (nat_cmp a b) (nat_cmp x y) (slice_cmp nat_cmp xs ys)

-- n bytes starting at place i, each by its place
abbrev each_from : List ℕ → ℕ → ℕ → List ℕ
each_from xs i zero = []
each_from xs i (suc n) = get_or xs i 0 ∷ each_from xs (suc i) n

drop-each : (n : ℕ) (xs : List ℕ) (i : ℕ) → i + n ≡ length xs → drop i xs ≡ each_from xs i n
drop-each zero xs i end = drop_all i xs (omega arith)
drop-each (suc n) xs i end = drop-cons xs i 0 (omega arith) ∙ ap (λ rest. get_or xs i 0 ∷ rest) (drop-each n xs (suc i) (omega arith))

from_be_bytes-16 : (xs : List ℕ) → length xs ≡ 16 → from_be_bytes w128 xs ≡ after 0 xs
from_be_bytes-16 xs len = let whole : after 0 xs ≡ after 0 (each_from xs 0 16) = ap (after 0) (drop-each 16 xs 0 (sym len)) in omega arith

from_be_bytes-4 : (xs : List ℕ) → length xs ≡ 4 → from_be_bytes w32 xs ≡ after 0 xs
from_be_bytes-4 xs len = let whole : after 0 xs ≡ after 0 (each_from xs 0 4) = ap (after 0) (drop-each 4 xs 0 (sym len)) in omega arith

AreBytes-take : (n : ℕ) (xs : List ℕ) → n ≤ length xs → AreBytes xs → AreBytes (take n xs)
AreBytes-take n xs le small k l =
    let len = length-take-le n xs le in
    rw (get_or-take n xs k 0 (omega arith)) (small k (omega arith))

AreBytes-drop : (n : ℕ) (xs : List ℕ) → n ≤ length xs → AreBytes xs → AreBytes (drop n xs)
AreBytes-drop n xs le small k l = rw (get_or-drop n xs k 0) (small (n + k) (omega (arith, length-drop n xs)))

-- equally many bytes that form x and y are in the order of x and y
slice_cmp-by_number : (xs ys : List ℕ) (x y : ℕ) → length xs ≡ length ys → AreBytes xs → AreBytes ys → x ≡ after 0 xs → y ≡ after 0 ys → nat_cmp x y ≡ slice_cmp nat_cmp xs ys
slice_cmp-by_number xs ys x y same small_xs small_ys is_x is_y = (λ i. nat_cmp (is_x i) (is_y i)) ∙ nat_cmp-after 0 0 xs ys same small_xs small_ys

-- texts of 20 bytes are in the order of the numbers of their first 16, and otherwise of their last 4
slice_cmp-by_numbers : (xs ys : List ℕ) → length xs ≡ 20 → length ys ≡ 20 → AreBytes xs → AreBytes ys
    → slice_cmp nat_cmp xs ys ≡ ordering_then (nat_cmp (from_be_bytes w128 (take 16 xs)) (from_be_bytes w128 (take 16 ys))) (nat_cmp (from_be_bytes w32 (drop 16 xs)) (from_be_bytes w32 (drop 16 ys)))
slice_cmp-by_numbers xs ys len_xs len_ys small_xs small_ys =
    let front_xs = length-take-le 16 xs (omega arith) in
    let front_ys = length-take-le 16 ys (omega arith) in
    let back_xs : length (drop 16 xs) ≡ 4 = omega (arith, length-drop 16 xs) in
    let back_ys : length (drop 16 ys) ≡ 4 = omega (arith, length-drop 16 ys) in
    let front = slice_cmp-by_number (take 16 xs) (take 16 ys) _ _ (front_xs ∙ sym front_ys) (AreBytes-take 16 xs (omega arith) small_xs) (AreBytes-take 16 ys (omega arith) small_ys)
    (from_be_bytes-16 _ front_xs) (from_be_bytes-16 _ front_ys) in
    let back = slice_cmp-by_number (drop 16 xs) (drop 16 ys) _ _ (back_xs ∙ sym back_ys) (AreBytes-drop 16 xs (omega arith) small_xs) (AreBytes-drop 16 ys (omega arith) small_ys)
    (from_be_bytes-4 _ back_xs) (from_be_bytes-4 _ back_ys) in
    (λ i. slice_cmp nat_cmp (sym (take-append-drop 16 xs) i) (sym (take-append-drop 16 ys) i))
    ∙ slice_cmp-append (take 16 xs) (take 16 ys) (drop 16 xs) (drop 16 ys) (front_xs ∙ sym front_ys)
    ∙ (λ i. ordering_then (sym front i) (sym back i))

-- the fronts aren't equal
pub front_decides : (xs ys : List ℕ) (x y : ℕ) (r : Ordering) → length xs ≡ 20 → length ys ≡ 20 → AreBytes xs → AreBytes ys
    → x ≡ from_be_bytes w128 (take 16 xs) → y ≡ from_be_bytes w128 (take 16 ys) → r ≡ nat_cmp x y → (r ≡ Equal → ⊥) → r ≡ slice_cmp nat_cmp xs ys
front_decides xs ys x y r len_xs len_ys small_xs small_ys is_x is_y is_r apart =
    then_apart r _ apart
    ∙ (λ i. ordering_then (is_r i) (nat_cmp (from_be_bytes w32 (drop 16 xs)) (from_be_bytes w32 (drop 16 ys))))
    ∙ (λ i. ordering_then (nat_cmp (is_x i) (is_y i)) (nat_cmp (from_be_bytes w32 (drop 16 xs)) (from_be_bytes w32 (drop 16 ys))))
    ∙ sym (slice_cmp-by_numbers xs ys len_xs len_ys small_xs small_ys)

-- the fronts are equal
pub back_decides : (xs ys : List ℕ) (x y : ℕ) (r : Ordering) → length xs ≡ 20 → length ys ≡ 20 → AreBytes xs → AreBytes ys
    → Equal ≡ nat_cmp (from_be_bytes w128 (take 16 xs)) (from_be_bytes w128 (take 16 ys)) → x ≡ from_be_bytes w32 (drop 16 xs) → y ≡ from_be_bytes w32 (drop 16 ys) → r ≡ nat_cmp x y
    → r ≡ slice_cmp nat_cmp xs ys
back_decides xs ys x y r len_xs len_ys small_xs small_ys level is_x is_y is_r =
    is_r
    ∙ (λ i. ordering_then (level i) (nat_cmp (is_x i) (is_y i)))
    ∙ sym (slice_cmp-by_numbers xs ys len_xs len_ys small_xs small_ys)
