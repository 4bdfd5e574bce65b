-- LEIs in byte order: each once, and the same LEIs as in the list.
use Rattle.std.specs.Prelude.{◌≡◌, ℕ, Bool, true, false, not, ◌&&◌, ◌||◌, List, [], ◌∷◌, ◌++◌, flat_map}
use Rattle.std.specs.BTreeSet.{insert_key}
use Rattle.std.specs.Cmp.Lexicographic.{slice_cmp}
use Rattle.std.specs.declared.cmp.Ordering.{Ordering}
use Rattle.std.specs.declared.cmp.Ordering.TheVariants.{Equal, Greater, Less}
use Rattle.std.specs.List.{AllByRecursion, IsDistinct, fold}
use Rattle.std.specs.List.Sorted.{IsStrictlySortedBy}
use Rattle.std.specs.Ordering.{is_eq, match_ordering, nat_cmp, ordering_reverse}
use Rattle.std.specs.Str.{bytes_eq}
use Rattle.std.proofs.Common.{refl, sym, ap, ◌∙◌}
use Rattle.std.proofs.lemmas.Bool.{or_parts}
use Rattle.std.proofs.lemmas.Cmp.{nat_list_cmp_total}
use Rattle.std.proofs.lemmas.Map.Made.{is_member-filter}
use Rattle.std.proofs.lemmas.Map.Text.{is_eq-slice_cmp}
use Rattle.successor_rules.specs.Chains.{Nexts}
use Rattle.successor_rules.proofs.AgreeLemmas.{text_laws}
use Rattle.successor_rules.proofs.LevelLemmas.{has, same_text}
use Rattle.fetched_cells.specs.Nearest.{distinct_leis, new_ones, unmet_leis}

-- an LEI inserted at its place in a list in byte order
abbrev put : List (List ℕ) → List ℕ → List (List ℕ)
put leis lei = insert_key (slice_cmp nat_cmp) leis lei

-- ---- the same LEIs

put-has : (xs : List (List ℕ)) (k y : List ℕ) → has (put xs k) y ≡ (bytes_eq y k || has xs y)
put-has [] k y = refl
put-has (x ∷ xs) k y = by (put-has xs k y) (slice_cmp nat_cmp k x) refl
  where
    twice : (e f h : Bool) → f ≡ e → (e || h) ≡ (f || (e || h))
    twice true true h is = refl
    twice true false h is = refl
    twice false true h is = absurd cc
    twice false false h is = refl

    swap : (e f h : Bool) → (e || (f || h)) ≡ (f || (e || h))
    swap true true h = refl
    swap true false h = refl
    swap false f h = refl

    by : has (put xs k) y ≡ (bytes_eq y k || has xs y) → (o : Ordering) → slice_cmp nat_cmp k x ≡ o
        → has (match_ordering o (k ∷ x ∷ xs) (x ∷ xs) (x ∷ put xs k)) y ≡ (bytes_eq y k || (bytes_eq y x || has xs y))
    by rest Less is = refl
    by rest Equal is =
        let same : k ≡ x = same_text k x (sym (is_eq-slice_cmp k x) ∙ ap is_eq is) in
        twice (bytes_eq y x) (bytes_eq y k) (has xs y) (ap (bytes_eq y) same)
    by rest Greater is = ap (λ b. bytes_eq y x || b) rest ∙ swap (bytes_eq y x) (bytes_eq y k) (has xs y)

fold-has : (level leis : List (List ℕ)) (y : List ℕ) → has (fold put level leis) y ≡ (has level y || has leis y)
fold-has level [] y = alone (has level y)
  where
    alone : (b : Bool) → b ≡ (b || false)
    alone true = refl
    alone false = refl
fold-has level (x ∷ xs) y =
    fold-has (put level x) xs y ∙ (ap (λ b. b || has xs y) (put-has level x y) ∙ turn (bytes_eq y x) (has level y) (has xs y))
  where
    turn : (e l h : Bool) → ((e || l) || h) ≡ (l || (e || h))
    turn true true h = refl
    turn true false h = refl
    turn false l h = refl

unmet_leis-has : (met leis : List (List ℕ)) (y : List ℕ) → has (unmet_leis met leis) y ≡ (has leis y && not (has met y))
unmet_leis-has met leis y =
    is_member-filter text_laws (λ lei. not (has met lei)) y (λ x is. ap (λ z. not (has met z)) (same_text y x is)) leis

-- the new LEIs of a level are those that are named and weren't met
pub new_ones-has : (nexts : Nexts) (met before : List (List ℕ)) (y : List ℕ)
    → has (new_ones nexts met before) y ≡ (has (flat_map nexts before) y && not (has met y))
new_ones-has nexts met before y =
    fold-has [] (unmet_leis met (flat_map nexts before)) y ∙ unmet_leis-has met (flat_map nexts before) y

-- ---- each once

all_below : (k x : List ℕ) (xs : List (List ℕ)) → slice_cmp nat_cmp k x ≡ Less → AllByRecursion (λ y. slice_cmp nat_cmp x y ≡ Less) xs
    → AllByRecursion (λ y. slice_cmp nat_cmp k y ≡ Less) xs
all_below k x [] is all = tt
all_below k x (y ∷ ys) is all = (nat_list_cmp_total.trans k x y is all.0, all_below k x ys is all.1)

all_put : (x k : List ℕ) (xs : List (List ℕ)) → slice_cmp nat_cmp x k ≡ Less → AllByRecursion (λ y. slice_cmp nat_cmp x y ≡ Less) xs
    → AllByRecursion (λ y. slice_cmp nat_cmp x y ≡ Less) (put xs k)
all_put x k [] is all = (is, tt)
all_put x k (y ∷ ys) is all = by (all_put x k ys is all.1) (slice_cmp nat_cmp k y)
  where
    by : AllByRecursion (λ z. slice_cmp nat_cmp x z ≡ Less) (put ys k) → (o : Ordering)
        → AllByRecursion (λ z. slice_cmp nat_cmp x z ≡ Less) (match_ordering o (k ∷ y ∷ ys) (y ∷ ys) (y ∷ put ys k))
    by rest Less = (is, all)
    by rest Equal = all
    by rest Greater = (all.0, rest)

put-sorted : (xs : List (List ℕ)) (k : List ℕ) → IsStrictlySortedBy (slice_cmp nat_cmp) xs → IsStrictlySortedBy (slice_cmp nat_cmp) (put xs k)
unfolding IsStrictlySortedBy
put-sorted [] k sorted = (tt, tt)
put-sorted (x ∷ xs) k sorted = by (put-sorted xs k sorted.1) (slice_cmp nat_cmp k x) refl
  where
    by : IsStrictlySortedBy (slice_cmp nat_cmp) (put xs k) → (o : Ordering) → slice_cmp nat_cmp k x ≡ o
        → IsStrictlySortedBy (slice_cmp nat_cmp) (match_ordering o (k ∷ x ∷ xs) (x ∷ xs) (x ∷ put xs k))
    by rest Less is = ((is, all_below k x xs is sorted.0), sorted)
    by rest Equal is = sorted
    by rest Greater is =
        let above : slice_cmp nat_cmp x k ≡ Less = nat_list_cmp_total.antisymm x k ∙ ap ordering_reverse is in
        (all_put x k xs above sorted.0, rest)

fold-sorted : (level leis : List (List ℕ)) → IsStrictlySortedBy (slice_cmp nat_cmp) level → IsStrictlySortedBy (slice_cmp nat_cmp) (fold put level leis)
fold-sorted level [] sorted = sorted
fold-sorted level (x ∷ xs) sorted = fold-sorted (put level x) xs (put-sorted level x sorted)

sorted-distinct : (xs : List (List ℕ)) → IsStrictlySortedBy (slice_cmp nat_cmp) xs → IsDistinct bytes_eq xs
unfolding IsStrictlySortedBy IsDistinct
sorted-distinct [] sorted = tt
sorted-distinct (x ∷ xs) sorted = (apart xs sorted.0, sorted-distinct xs sorted.1)
  where
    apart : (ys : List (List ℕ)) → AllByRecursion (λ y. slice_cmp nat_cmp x y ≡ Less) ys → AllByRecursion (λ y. bytes_eq x y ≡ false) ys
    apart [] all = tt
    apart (y ∷ ys) all = (sym (is_eq-slice_cmp x y) ∙ ap is_eq all.0, apart ys all.1)

none_sorted : IsStrictlySortedBy (slice_cmp nat_cmp) []
unfolding IsStrictlySortedBy
none_sorted = tt

pub order-sorted : (leis : List (List ℕ)) → IsStrictlySortedBy (slice_cmp nat_cmp) (distinct_leis leis)
order-sorted leis = fold-sorted [] leis none_sorted

pub new_ones-distinct : (nexts : Nexts) (met before : List (List ℕ)) → IsDistinct bytes_eq (new_ones nexts met before)
new_ones-distinct nexts met before =
    sorted-distinct (new_ones nexts met before) (order-sorted (unmet_leis met (flat_map nexts before)))

-- ---- two lists without duplicates

-- an LEI that a list lacks differs from each of its members
none_is : (x : List ℕ) (ys : List (List ℕ)) → has ys x ≡ false → AllByRecursion (λ y. bytes_eq x y ≡ false) ys
none_is x [] lacks = tt
none_is x (y ∷ ys) lacks =
    let parts = or_parts (bytes_eq x y) (has ys x) lacks in
    (parts.0, none_is x ys parts.1)

all_both : (x : List ℕ) (xs ys : List (List ℕ)) → AllByRecursion (λ y. bytes_eq x y ≡ false) xs → AllByRecursion (λ y. bytes_eq x y ≡ false) ys
    → AllByRecursion (λ y. bytes_eq x y ≡ false) (xs ++ ys)
all_both x [] ys one two = two
all_both x (z ∷ zs) ys one two = (one.0, all_both x zs ys one.1 two)

pub both-distinct : (xs ys : List (List ℕ)) → IsDistinct bytes_eq xs → IsDistinct bytes_eq ys
    → ((x : List ℕ) → has xs x ≡ true → has ys x ≡ false) → IsDistinct bytes_eq (xs ++ ys)
unfolding IsDistinct
both-distinct [] ys one two apart = two
both-distinct (x ∷ xs) ys one two apart = (
  all_both x xs ys one.0 (none_is x ys (apart x (first_has x xs))),
  both-distinct xs ys one.1 two (λ z at. apart z (later_has x xs z at)),
)
  where
    first_has : (x : List ℕ) (xs : List (List ℕ)) → has (x ∷ xs) x ≡ true
    first_has x xs = ap (λ b. b || has xs x) (text_laws.refl x)

    later_has : (x : List ℕ) (xs : List (List ℕ)) (z : List ℕ) → has xs z ≡ true → has (x ∷ xs) z ≡ true
    later_has x xs z at = by (bytes_eq z x) (has xs z) at
      where
        by : (e h : Bool) → h ≡ true → (e || h) ≡ true
        by true h is = refl
        by false h is = is
