-- Lists of LEIs: which are among them, and that none is there twice.
use Rattle.std.specs.Prelude.{◌≡◌, ℕ, zero, suc, ◌+◌, ◌<◌, ◌≤◌, Bool, true, false, cond, ◌||◌, List, [], ◌∷◌, ◌++◌, Option, None, Some, filter, find, flat_map, fold, get_or, length, map}
use Rattle.std.specs.BTreeSet.{insert_key}
use Rattle.std.specs.Cmp.{IsEquivalence}
use Rattle.std.specs.Cmp.Lexicographic.{slice_cmp}
use Rattle.std.specs.declared.cmp.Ordering.{Ordering}
use Rattle.std.specs.declared.cmp.Ordering.TheVariants.{Equal, Greater, Less}
use Rattle.std.specs.List.{AllByRecursion, IsDistinct, range_with_len}
use Rattle.std.specs.List.Sorted.{IsStrictlySortedBy}
use Rattle.std.specs.Ordering.{is_eq, match_ordering, nat_cmp, ordering_reverse}
use Rattle.std.specs.Set.{is_member}
use Rattle.std.specs.Str.{bytes_eq}
use Rattle.std.proofs.Common.{refl, sym, ap, subst, ◌∙◌, ◌⊎◌, inl, inr, ltb, arith}
use Rattle.std.proofs.lemmas.Bool.{cases_Bool, false≢true, ltb-false, ltb-true, or_cases, or_left, or_parts, or_right}
use Rattle.std.proofs.lemmas.Cmp.{nat_list_cmp_total}
use Rattle.std.proofs.lemmas.List.Folds.{list_any-append}
use Rattle.std.proofs.lemmas.Map.Keys.{sorted_head, sorted_tail}
use Rattle.std.proofs.lemmas.Map.Text.{is_eq-slice_cmp}
use Rattle.std.proofs.lemmas.Slice.Eq.{bytes_eq-Decides}
use Rattle.lei_code.specs.Texts.{Lei}
use Rattle.group_reports.specs.Groups.{leis_in_order}
use Rattle.group_reports.proofs.InsertLemmas.{insert-has}

pub same_lei : (x y : Lei) → bytes_eq x y ≡ true → x ≡ y
same_lei x y is = (bytes_eq-Decides x y).0 is

pub own_lei : (x : Lei) → bytes_eq x x ≡ true
own_lei x = (bytes_eq-Decides x x).1 refl

turned : (x y : Lei) → (bytes_eq x y ≡ true) ⊎ (bytes_eq x y ≡ false) → bytes_eq x y ≡ bytes_eq y x
turned x y (inl is) = is ∙ sym (subst (λ z. bytes_eq z x ≡ true) (same_lei x y is) (own_lei x))
turned x y (inr isnt) = by (cases_Bool (bytes_eq y x))
  where
    by : (bytes_eq y x ≡ true) ⊎ (bytes_eq y x ≡ false) → bytes_eq x y ≡ bytes_eq y x
    by (inl is) = absurd (false≢true (sym isnt ∙ subst (λ z. bytes_eq z y ≡ true) (same_lei y x is) (own_lei y)))
    by (inr differs) = isnt ∙ sym differs

pub lei_laws : IsEquivalence bytes_eq
lei_laws = record {
  refl = own_lei;
  symm = λ x y. turned x y (cases_Bool (bytes_eq x y));
  congr = λ x y z is. ap (λ t. bytes_eq t z) (same_lei x y is);
}

-- an LEI is among these
abbrev pub has : List Lei → Lei → Bool
has xs y = is_member bytes_eq xs y

-- an LEI at its place among others that are in order
abbrev put : List Lei → Lei → List Lei
put leis lei = insert_key (slice_cmp nat_cmp) leis lei

-- ---- in order: the same LEIs

tied_leis : (k x : Lei) → slice_cmp nat_cmp k x ≡ Equal → k ≡ x
tied_leis k x is = same_lei k x (sym (is_eq-slice_cmp k x) ∙ ap is_eq is)

put-has : (xs : List Lei) (k y : Lei) → has (put xs k) y ≡ (bytes_eq y k || has xs y)
put-has xs k y = insert-has (slice_cmp nat_cmp) bytes_eq tied_leis xs k y

fold-has : (made leis : List Lei) (y : Lei) → has (fold put made leis) y ≡ (has made y || has leis y)
fold-has made [] y = alone (has made y)
  where
    alone : (b : Bool) → b ≡ (b || false)
    alone true = refl
    alone false = refl
fold-has made (x ∷ xs) y =
    fold-has (put made x) xs y ∙ (ap (λ b. b || has xs y) (put-has made x y) ∙ turn (bytes_eq y x) (has made y) (has xs y))
  where
    turn : (e l h : Bool) → ((e || l) || h) ≡ (l || (e || h))
    turn true true h = refl
    turn true false h = refl
    turn false l h = refl

pub leis_in_order-has : (leis : List Lei) (y : Lei) → has (leis_in_order leis) y ≡ has leis y
leis_in_order-has leis y = fold-has [] leis y

-- ---- in order: each once

all_below : (k x : Lei) (xs : List Lei) → slice_cmp nat_cmp k x ≡ Less → AllByRecursion (λ y. slice_cmp nat_cmp x y ≡ Less) xs
    → AllByRecursion (λ y. slice_cmp nat_cmp k y ≡ Less) xs
all_below k x [] is all = tt
all_below k x (y ∷ ys) is all = (nat_list_cmp_total.trans k x y is all.0, all_below k x ys is all.1)

all_put : (x k : Lei) (xs : List Lei) → slice_cmp nat_cmp x k ≡ Less → AllByRecursion (λ y. slice_cmp nat_cmp x y ≡ Less) xs
    → AllByRecursion (λ y. slice_cmp nat_cmp x y ≡ Less) (put xs k)
all_put x k [] is all = (is, tt)
all_put x k (y ∷ ys) is all = by (all_put x k ys is all.1) (slice_cmp nat_cmp k y)
  where
    by : AllByRecursion (λ z. slice_cmp nat_cmp x z ≡ Less) (put ys k) → (o : Ordering)
        → AllByRecursion (λ z. slice_cmp nat_cmp x z ≡ Less) (match_ordering o (k ∷ y ∷ ys) (y ∷ ys) (y ∷ put ys k))
    by rest Less = (is, all)
    by rest Equal = all
    by rest Greater = (all.0, rest)

put-sorted : (xs : List Lei) (k : Lei) → IsStrictlySortedBy (slice_cmp nat_cmp) xs → IsStrictlySortedBy (slice_cmp nat_cmp) (put xs k)
unfolding IsStrictlySortedBy
put-sorted [] k sorted = (tt, tt)
put-sorted (x ∷ xs) k sorted = by (put-sorted xs k sorted.1) (slice_cmp nat_cmp k x) refl
  where
    by : IsStrictlySortedBy (slice_cmp nat_cmp) (put xs k) → (o : Ordering) → slice_cmp nat_cmp k x ≡ o
        → IsStrictlySortedBy (slice_cmp nat_cmp) (match_ordering o (k ∷ x ∷ xs) (x ∷ xs) (x ∷ put xs k))
    by rest Less is = ((is, all_below k x xs is sorted.0), sorted)
    by rest Equal is = sorted
    by rest Greater is =
        let above : slice_cmp nat_cmp x k ≡ Less = nat_list_cmp_total.antisymm x k ∙ ap ordering_reverse is in
        (all_put x k xs above sorted.0, rest)

fold-sorted : (made leis : List Lei) → IsStrictlySortedBy (slice_cmp nat_cmp) made → IsStrictlySortedBy (slice_cmp nat_cmp) (fold put made leis)
fold-sorted made [] sorted = sorted
fold-sorted made (x ∷ xs) sorted = fold-sorted (put made x) xs (put-sorted made x sorted)

less-apart : (x : Lei) (ys : List Lei) → AllByRecursion (λ y. slice_cmp nat_cmp x y ≡ Less) ys → AllByRecursion (λ y. bytes_eq x y ≡ false) ys
less-apart x [] all = tt
less-apart x (y ∷ ys) all = (sym (is_eq-slice_cmp x y) ∙ ap is_eq all.0, less-apart x ys all.1)

sorted-distinct : (xs : List Lei) → IsStrictlySortedBy (slice_cmp nat_cmp) xs → IsDistinct bytes_eq xs
unfolding IsStrictlySortedBy IsDistinct
sorted-distinct [] sorted = tt
sorted-distinct (x ∷ xs) sorted = (less-apart x xs sorted.0, sorted-distinct xs sorted.1)

none_sorted : IsStrictlySortedBy (slice_cmp nat_cmp) []
unfolding IsStrictlySortedBy
none_sorted = tt

pub leis_in_order-sorted : (leis : List Lei) → IsStrictlySortedBy (slice_cmp nat_cmp) (leis_in_order leis)
leis_in_order-sorted leis = fold-sorted [] leis none_sorted

pub leis_in_order-distinct : (leis : List Lei) → IsDistinct bytes_eq (leis_in_order leis)
leis_in_order-distinct leis = sorted-distinct (leis_in_order leis) (leis_in_order-sorted leis)

-- ---- none twice

-- an LEI that isn't among others differs from each
pub all_apart : (x : Lei) (ys : List Lei) → has ys x ≡ false → AllByRecursion (λ y. bytes_eq x y ≡ false) ys
all_apart x [] isnt = tt
all_apart x (y ∷ ys) isnt =
    let parts = or_parts (bytes_eq x y) (has ys x) isnt in (parts.0, all_apart x ys parts.1)

pub not_among : (x : Lei) (ys : List Lei) → AllByRecursion (λ y. bytes_eq x y ≡ false) ys → has ys x ≡ false
not_among x [] all = refl
not_among x (y ∷ ys) all = ap (λ b. b || has ys x) all.0 ∙ not_among x ys all.1

-- ---- the same LEIs in order

absent : (x : Lei) (ys : List Lei) → AllByRecursion (λ y. slice_cmp nat_cmp x y ≡ Less) ys → has ys x ≡ false
absent x ys all = not_among x ys (less-apart x ys all)

absent_before : (x y : Lei) (ys : List Lei) → slice_cmp nat_cmp x y ≡ Less → AllByRecursion (λ z. slice_cmp nat_cmp y z ≡ Less) ys
    → has (y ∷ ys) x ≡ false
absent_before x y ys is all = absent x (y ∷ ys) (is, all_below x y ys is all)

-- a list in order is determined by its members
pub same_in_order : (xs ys : List Lei) → IsStrictlySortedBy (slice_cmp nat_cmp) xs → IsStrictlySortedBy (slice_cmp nat_cmp) ys
    → ((z : Lei) → has xs z ≡ has ys z) → xs ≡ ys
same_in_order [] [] first second same = refl
same_in_order [] (y ∷ ys) first second same = absurd (false≢true (same y ∙ or_left (bytes_eq y y) (has ys y) (own_lei y)))
same_in_order (x ∷ xs) [] first second same = absurd (false≢true (sym (same x) ∙ or_left (bytes_eq x x) (has xs x) (own_lei x)))
same_in_order (x ∷ xs) (y ∷ ys) first second same = by (λ alike. same_in_order xs ys (sorted_tail (slice_cmp nat_cmp) x xs first) (sorted_tail (slice_cmp nat_cmp) y ys second) alike) (slice_cmp nat_cmp x y) refl
  where
    above_x : AllByRecursion (λ z. slice_cmp nat_cmp x z ≡ Less) xs
    above_x = sorted_head (slice_cmp nat_cmp) x xs first

    above_y : AllByRecursion (λ z. slice_cmp nat_cmp y z ≡ Less) ys
    above_y = sorted_head (slice_cmp nat_cmp) y ys second

    tails : x ≡ y → (z : Lei) → (bytes_eq z x ≡ true) ⊎ (bytes_eq z x ≡ false) → has xs z ≡ has ys z
    tails one z (inl is) =
        ap (has xs) (same_lei z x is) ∙ absent x xs above_x
        ∙ sym (ap (has ys) (same_lei z x is ∙ one) ∙ absent y ys above_y)
    tails one z (inr isnt) =
        ap (λ b. b || has xs z) (sym isnt) ∙ (same z ∙ ap (λ b. b || has ys z) (ap (bytes_eq z) (sym one) ∙ isnt))

    by : (((z : Lei) → has xs z ≡ has ys z) → xs ≡ ys) → (o : Ordering) → slice_cmp nat_cmp x y ≡ o → x ∷ xs ≡ y ∷ ys
    by rest Less is =
        absurd (false≢true (sym (absent_before x y ys is above_y) ∙ (sym (same x) ∙ or_left (bytes_eq x x) (has xs x) (own_lei x))))
    by rest Greater is =
        let turned_is : slice_cmp nat_cmp y x ≡ Less = nat_list_cmp_total.antisymm y x ∙ ap ordering_reverse is in
        absurd (false≢true (sym (absent_before y x xs turned_is above_x) ∙ (same y ∙ or_left (bytes_eq y y) (has ys y) (own_lei y))))
    by rest Equal is =
        let one : x ≡ y = tied_leis x y is in
        ap (λ z. z ∷ xs) one
        ∙ ap (λ l. y ∷ l) (rest (λ z. tails one z (cases_Bool (bytes_eq z x))))

pub filter-has : (test : Lei → Bool) (xs : List Lei) (y : Lei) → has (filter test xs) y ≡ true → (has xs y ≡ true) × (test y ≡ true)
filter-has test [] y is = absurd (false≢true is)
filter-has test (x ∷ xs) y is = by (λ at. filter-has test xs y at) (test x) refl is
  where
    later : (has xs y ≡ true) × (test y ≡ true) → (has (x ∷ xs) y ≡ true) × (test y ≡ true)
    later others = (or_right (bytes_eq y x) (has xs y) others.0, others.1)

    first : (has (filter test xs) y ≡ true → (has xs y ≡ true) × (test y ≡ true)) → (bytes_eq y x ≡ true) ⊎ (has (filter test xs) y ≡ true)
        → test x ≡ true → (has (x ∷ xs) y ≡ true) × (test y ≡ true)
    first others (inl same) passes = (or_left (bytes_eq y x) (has xs y) same, ap test (same_lei y x same) ∙ passes)
    first others (inr at) passes = later (others at)

    by : (has (filter test xs) y ≡ true → (has xs y ≡ true) × (test y ≡ true)) → (b : Bool) → test x ≡ b
        → has (cond b (x ∷ filter test xs) (filter test xs)) y ≡ true → (has (x ∷ xs) y ≡ true) × (test y ≡ true)
    by others true passes at = first others (or_cases (bytes_eq y x) (has (filter test xs) y) at) passes
    by others false fails at = later (others at)

pub has-filter : (test : Lei → Bool) (xs : List Lei) (y : Lei) → has xs y ≡ true → test y ≡ true → has (filter test xs) y ≡ true
has-filter test [] y is passes = absurd (false≢true is)
has-filter test (x ∷ xs) y is passes =
    by (λ later. has-filter test xs y later passes) (or_cases (bytes_eq y x) (has xs y) is) (test x) refl
  where
    by : (has xs y ≡ true → has (filter test xs) y ≡ true) → (bytes_eq y x ≡ true) ⊎ (has xs y ≡ true) → (b : Bool) → test x ≡ b
        → has (cond b (x ∷ filter test xs) (filter test xs)) y ≡ true
    by others (inl same) true at = or_left (bytes_eq y x) (has (filter test xs) y) same
    by others (inl same) false at = absurd (false≢true (sym at ∙ (ap test (sym (same_lei y x same)) ∙ passes)))
    by others (inr later) true at = or_right (bytes_eq y x) (has (filter test xs) y) (others later)
    by others (inr later) false at = others later

filter_apart : (test : Lei → Bool) (x : Lei) (ys : List Lei) → AllByRecursion (λ y. bytes_eq x y ≡ false) ys
    → AllByRecursion (λ y. bytes_eq x y ≡ false) (filter test ys)
filter_apart test x [] all = tt
filter_apart test x (y ∷ ys) all = by (filter_apart test x ys all.1) (test y)
  where
    by : AllByRecursion (λ y. bytes_eq x y ≡ false) (filter test ys) → (b : Bool)
        → AllByRecursion (λ y. bytes_eq x y ≡ false) (cond b (y ∷ filter test ys) (filter test ys))
    by others true = (all.0, others)
    by others false = others

pub filter-distinct : (test : Lei → Bool) (xs : List Lei) → IsDistinct bytes_eq xs → IsDistinct bytes_eq (filter test xs)
unfolding IsDistinct
filter-distinct test [] distinct = tt
filter-distinct test (x ∷ xs) distinct = by (filter-distinct test xs distinct.1) (test x)
  where
    by : IsDistinct bytes_eq (filter test xs) → (b : Bool) → IsDistinct bytes_eq (cond b (x ∷ filter test xs) (filter test xs))
    by others true = (filter_apart test x xs distinct.0, others)
    by others false = others

both_false : (a b : Bool) → a ≡ false → b ≡ false → (a || b) ≡ false
both_false true b p q = absurd (false≢true (sym p))
both_false false b p q = q

pub append-distinct : (xs ys : List Lei) → IsDistinct bytes_eq xs → IsDistinct bytes_eq ys
    → ((y : Lei) → has xs y ≡ true → has ys y ≡ false) → IsDistinct bytes_eq (xs ++ ys)
unfolding IsDistinct
append-distinct [] ys first second apart = second
append-distinct (x ∷ xs) ys first second apart = (
  all_apart x (xs ++ ys) (list_any-append (bytes_eq x) xs ys
      ∙ both_false (has xs x) (has ys x) (not_among x xs first.0) (apart x (or_left (bytes_eq x x) (has xs x) (own_lei x)))),
  append-distinct xs ys first.1 second (λ y at. apart y (or_right (bytes_eq y x) (has xs y) at)),
)

-- ---- one list for each number

same_or_later : (a b : ℕ) → a ≤ b → (a ≡ b) ⊎ (a + 1 ≤ b)
same_or_later a b le = by (ltb a b) refl
  where
    by : (t : Bool) → ltb a b ≡ t → (a ≡ b) ⊎ (a + 1 ≤ b)
    by true is = inr (omega (arith, ltb-true a b is))
    by false is = inl (omega (arith, le, ltb-false a b is))

-- the number whose list has an LEI
pub record InOne (f : ℕ → List Lei) (from : ℕ) (y : Lei) : Type 0 where
  pub number : ℕ
  pub after : from ≤ number
  pub at : has (f number) y ≡ true

pub in_one : (f : ℕ → List Lei) (from n : ℕ) (y : Lei) → has (flat_map f (range_with_len from n)) y ≡ true → InOne f from y
in_one f from zero y is = absurd (false≢true is)
in_one f from (suc n) y is =
    by (λ later. in_one f (from + 1) n y later) (or_cases (has (f from) y) (has (flat_map f (range_with_len (from + 1) n)) y)
    (sym (list_any-append (bytes_eq y) (f from) (flat_map f (range_with_len (from + 1) n))) ∙ is))
  where
    by : (has (flat_map f (range_with_len (from + 1) n)) y ≡ true → InOne f (from + 1) y)
        → (has (f from) y ≡ true) ⊎ (has (flat_map f (range_with_len (from + 1) n)) y ≡ true) → InOne f from y
    by others (inl here) = record { number = from; after = omega arith; at = here }
    by others (inr later) =
        let more : from + 1 ≤ (others later).number = (others later).after in
        record { number = (others later).number; after = omega (arith, more); at = (others later).at }

pub in_all : (f : ℕ → List Lei) (from n d : ℕ) (y : Lei) → from ≤ d → d < from + n → has (f d) y ≡ true
    → has (flat_map f (range_with_len from n)) y ≡ true
in_all f from zero d y low high at = absurd (omega (arith, low, high))
in_all f from (suc n) d y low high at =
    list_any-append (bytes_eq y) (f from) (flat_map f (range_with_len (from + 1) n))
    ∙ by (λ later. in_all f (from + 1) n d y later (omega (arith, high)) at) (same_or_later from d low)
  where
    by : (from + 1 ≤ d → has (flat_map f (range_with_len (from + 1) n)) y ≡ true) → (from ≡ d) ⊎ (from + 1 ≤ d)
        → (has (f from) y || has (flat_map f (range_with_len (from + 1) n)) y) ≡ true
    by others (inl same) = or_left (has (f from) y) (has (flat_map f (range_with_len (from + 1) n)) y) (subst (λ k. has (f k) y ≡ true) (sym same) at)
    by others (inr later) = or_right (has (f from) y) (has (flat_map f (range_with_len (from + 1) n)) y) (others later)

pub all-distinct : (f : ℕ → List Lei) (own : Lei → Option ℕ) → ((d : ℕ) (y : Lei) → has (f d) y ≡ true → own y ≡ Some d)
    → ((d : ℕ) → IsDistinct bytes_eq (f d)) → (from n : ℕ) → IsDistinct bytes_eq (flat_map f (range_with_len from n))
unfolding IsDistinct
all-distinct f own is each from zero = tt
all-distinct f own is each from (suc n) =
    append-distinct (f from) (flat_map f (range_with_len (from + 1) n)) (each from) (all-distinct f own is each (from + 1) n)
    (λ y at. apart y at (cases_Bool (has (flat_map f (range_with_len (from + 1) n)) y)))
  where
    number_of : Option ℕ → ℕ
    number_of None = 0
    number_of (Some d) = d

    apart : (y : Lei) → has (f from) y ≡ true
        → (has (flat_map f (range_with_len (from + 1) n)) y ≡ true) ⊎ (has (flat_map f (range_with_len (from + 1) n)) y ≡ false)
        → has (flat_map f (range_with_len (from + 1) n)) y ≡ false
    apart y here (inr isnt) = isnt
    apart y here (inl later) =
        let other = in_one f (from + 1) n y later in
        let one : from ≡ other.number = ap number_of (sym (is from y here) ∙ is other.number y other.at) in
        let more : from + 1 ≤ other.number = other.after in
        absurd (omega (arith, one, more))

-- ---- what is found among numbers

pub record FoundAt (p : ℕ → Bool) (from n k : ℕ) : Type 0 where
  pub low : from ≤ k
  pub high : k < from + n
  pub passes : p k ≡ true
  pub first : (j : ℕ) → from ≤ j → j < k → p j ≡ false

pub found : (p : ℕ → Bool) (from n k : ℕ) → find p (range_with_len from n) ≡ Some k → FoundAt p from n k
found p from zero k e = absurd cc
found p from (suc n) k e = by (λ is. found p (from + 1) n k is) (p from) refl e
  where
    number_of : Option ℕ → ℕ
    number_of None = 0
    number_of (Some d) = d

    here : (rest : FoundAt p (from + 1) n k) → p from ≡ false → (j : ℕ) → j < k → (from ≡ j) ⊎ (from + 1 ≤ j) → p j ≡ false
    here rest isnt j before (inl same) = subst (λ d. p d ≡ false) same isnt
    here rest isnt j before (inr later) = rest.first j later before

    after : FoundAt p (from + 1) n k → p from ≡ false → FoundAt p from (suc n) k
    after rest isnt =
        let low : from + 1 ≤ k = rest.low in
        let high : k < from + 1 + n = rest.high in
        record {
          low = omega (arith, low);
          high = omega (arith, high);
          passes = rest.passes;
          first = λ j at before. here rest isnt j before (same_or_later from j at);
        }

    by : (find p (range_with_len (from + 1) n) ≡ Some k → FoundAt p (from + 1) n k) → (b : Bool) → p from ≡ b
        → cond b (Some from) (find p (range_with_len (from + 1) n)) ≡ Some k → FoundAt p from (suc n) k
    by others true is e =
        let same : from ≡ k = ap number_of e in
        record {
          low = omega (arith, same);
          high = omega (arith, same);
          passes = subst (λ d. p d ≡ true) same is;
          first = λ j at before. absurd (omega (arith, same, at, before));
        }
    by others false isnt e = after (others e) isnt

-- a number that passes is found, or one before it
pub record Finds (p : ℕ → Bool) (from n : ℕ) : Type 0 where
  pub number : ℕ
  pub is : find p (range_with_len from n) ≡ Some number

pub finds : (p : ℕ → Bool) (from n k : ℕ) → from ≤ k → k < from + n → p k ≡ true → Finds p from n
finds p from zero k low high is = absurd (omega (arith, low, high))
finds p from (suc n) k low high is =
    by (λ more. finds p (from + 1) n k more (omega (arith, high)) is) (same_or_later from k low) (p from) refl
  where
    by : (from + 1 ≤ k → Finds p (from + 1) n) → (from ≡ k) ⊎ (from + 1 ≤ k) → (b : Bool) → p from ≡ b → Finds p from (suc n)
    by others at true here = record { number = from; is = ap (λ b. cond b (Some from) (find p (range_with_len (from + 1) n))) here }
    by others (inl same) false isnt = absurd (false≢true (sym isnt ∙ subst (λ d. p d ≡ true) (sym same) is))
    by others (inr more) false isnt = record {
      number = (others more).number;
      is = ap (λ b. cond b (Some from) (find p (range_with_len (from + 1) n))) isnt ∙ (others more).is;
    }

-- ---- a list of what each one represents

pub get_or-map : {X Y : Type 0} (f : X → Y) (xs : List X) (i : ℕ) (d : Y) (e : X) → i < length xs → get_or (map f xs) i d ≡ f (get_or xs i e)
get_or-map f [] i d e within = absurd (omega (arith, within))
get_or-map f (x ∷ xs) zero d e within = refl
get_or-map f (x ∷ xs) (suc i) d e within = get_or-map f xs i d e (omega (arith, within))
