-- Names in two parts: each name has one such pair, and their order is that of names.
use Rattle.std.proofs.Common.{◌≡◌, ◌≤◌, ◌<◌, ℕ, zero, suc, List, [], ◌∷◌, ◌++◌, length, take, drop, Ordering, Less, Equal, Greater, refl, sym, ap, ◌∙◌, arith}
use Rattle.std.specs.Cmp.Lexicographic.{slice_cmp}
use Rattle.std.specs.Ordering.{nat_cmp, ordering_then}
use Rattle.std.proofs.lemmas.List.{take-append-drop}
use Rattle.store_statements.specs.Names.{AreNameParts, lei_of, rest_of}

-- ---- the parts

most_of : (k : ℕ) (xs : List ℕ) → length (take k xs) ≤ k
most_of zero xs = omega arith
most_of (suc k) [] = omega arith
most_of (suc k) (x ∷ xs) = let more = most_of k xs in omega (arith, more)

whole_of : (k : ℕ) (xs : List ℕ) → length (take k xs) < k → drop k xs ≡ []
whole_of zero xs low = absurd (omega (arith, low))
whole_of (suc k) [] low = refl
whole_of (suc k) (x ∷ xs) low = whole_of k xs (omega (arith, low))

pub parts_of : (name : List ℕ) → AreNameParts (lei_of name) (rest_of name)
parts_of name = record { most = most_of 20 name; whole = whole_of 20 name }

pub joined_again : (name : List ℕ) → lei_of name ++ rest_of name ≡ name
joined_again name = take-append-drop 20 name

first_again : (k : ℕ) (xs ys : List ℕ) → length xs ≤ k → (length xs < k → ys ≡ []) → take k (xs ++ ys) ≡ xs
first_again zero [] ys most whole = refl
first_again zero (x ∷ xs) ys most whole = absurd (omega (arith, most))
first_again (suc k) [] ys most whole = ap (take (suc k)) (whole (omega arith))
first_again (suc k) (x ∷ xs) ys most whole = ap (λ zs. x ∷ zs)
    (first_again k xs ys (omega (arith, most)) (λ low. whole (omega (arith, low))))

rest_again : (k : ℕ) (xs ys : List ℕ) → length xs ≤ k → (length xs < k → ys ≡ []) → drop k (xs ++ ys) ≡ ys
rest_again zero [] ys most whole = refl
rest_again zero (x ∷ xs) ys most whole = absurd (omega (arith, most))
rest_again (suc k) [] ys most whole =
    let none = whole (omega arith) in ap (drop (suc k)) none ∙ sym none
rest_again (suc k) (x ∷ xs) ys most whole = rest_again k xs ys (omega (arith, most))
    (λ low. whole (omega (arith, low)))

pub parts_again : (lei rest : List ℕ) → AreNameParts lei rest
    → (lei_of (lei ++ rest) ≡ lei) × (rest_of (lei ++ rest) ≡ rest)
parts_again lei rest are = (first_again 20 lei rest are.most are.whole, rest_again 20 lei rest are.most are.whole)

-- ---- their order

then_then : (o p q : Ordering) → ordering_then o (ordering_then p q) ≡ ordering_then (ordering_then o p) q
then_then Less p q = refl
then_then Equal p q = refl
then_then Greater p q = refl

parts_cmp : (k : ℕ) (xs ys : List ℕ)
    → ordering_then (slice_cmp nat_cmp (take k xs) (take k ys)) (slice_cmp nat_cmp (drop k xs) (drop k ys))
    ≡ slice_cmp nat_cmp xs ys
parts_cmp zero xs ys = refl
parts_cmp (suc k) [] [] = refl
parts_cmp (suc k) [] (y ∷ ys) = refl
parts_cmp (suc k) (x ∷ xs) [] = refl
parts_cmp (suc k) (x ∷ xs) (y ∷ ys) =
    sym (then_then (nat_cmp x y) (slice_cmp nat_cmp (take k xs) (take k ys))
    (slice_cmp nat_cmp (drop k xs) (drop k ys)))
    ∙ ap (ordering_then (nat_cmp x y)) (parts_cmp k xs ys)

pub names_cmp : (name named : List ℕ)
    → ordering_then (slice_cmp nat_cmp (lei_of name) (lei_of named))
    (slice_cmp nat_cmp (rest_of name) (rest_of named)) ≡ slice_cmp nat_cmp name named
names_cmp name named = parts_cmp 20 name named

pub parts_order : (kind other : ℕ) (name named : List ℕ)
    → ordering_then (nat_cmp kind other)
    (ordering_then (slice_cmp nat_cmp (lei_of name) (lei_of named))
    (slice_cmp nat_cmp (rest_of name) (rest_of named)))
    ≡ slice_cmp nat_cmp (kind ∷ name) (other ∷ named)
parts_order kind other name named = ap (ordering_then (nat_cmp kind other)) (names_cmp name named)
