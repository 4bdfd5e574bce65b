-- The least of names that rise and pass a test is the first of them.
use Rattle.std.specs.Prelude.{◌≡◌, ℕ, Bool, true, false, cond, List, [], ◌∷◌, filter, find, Option, Some, None, IfSome}
use Rattle.std.specs.Cmp.Lexicographic.{slice_cmp}
use Rattle.std.specs.List.{AllByRecursion}
use Rattle.std.specs.List.Sorted.{IsStrictlySortedBy}
use Rattle.std.specs.Ordering.{is_lt, nat_cmp, ordering_reverse}
use Rattle.std.specs.declared.cmp.Ordering.TheVariants.{Less}
use Rattle.std.proofs.Common.{refl, ap, ◌∙◌}
use Rattle.std.proofs.lemmas.Cmp.{nat_list_cmp_total}
use Rattle.item_fields.specs.Names.{least, lesser}

abbrev IsBelowAll : List ℕ → List (List ℕ) → Type 0
IsBelowAll own ns = AllByRecursion (λ k. slice_cmp nat_cmp own k ≡ Less) ns

passing_above : (p : List ℕ → Bool) (own : List ℕ) (ns : List (List ℕ)) → IsBelowAll own ns → IsBelowAll own (filter p ns)
passing_above p own [] below = tt
passing_above p own (n ∷ ns) below =
    elim (p n) as (λ b. IsBelowAll own (cond b (n ∷ filter p ns) (filter p ns))) [
      | true ↦ (below.0, passing_above p own ns below.1)
      | false ↦ passing_above p own ns below.1
    ]

lesser_above : (own n : List ℕ) (o : Option (List ℕ)) → slice_cmp nat_cmp own n ≡ Less → IfSome o (λ m. slice_cmp nat_cmp own m ≡ Less)
    → slice_cmp nat_cmp own (lesser n o) ≡ Less
lesser_above own n None first others = first
lesser_above own n (Some m) first others =
    elim (is_lt (slice_cmp nat_cmp m n)) as (λ b. slice_cmp nat_cmp own (cond b m n) ≡ Less) [ true ↦ others | false ↦ first ]

least_above : (own : List ℕ) (ns : List (List ℕ)) → IsBelowAll own ns → IfSome (least ns) (λ m. slice_cmp nat_cmp own m ≡ Less)
least_above own [] below = tt
least_above own (n ∷ ns) below = lesser_above own n (least ns) below.0 (least_above own ns below.1)

lesser-first : (own : List ℕ) (o : Option (List ℕ)) → IfSome o (λ m. slice_cmp nat_cmp own m ≡ Less) → lesser own o ≡ own
lesser-first own None below = refl
lesser-first own (Some m) below =
    ap (λ r. cond (is_lt r) m own) (nat_list_cmp_total.antisymm m own ∙ ap ordering_reverse below)

-- if names rise, the first that passes is the least that does
pub least-first : (p : List ℕ → Bool) (ns : List (List ℕ)) → IsStrictlySortedBy (slice_cmp nat_cmp) ns → least (filter p ns) ≡ find p ns
unfolding IsStrictlySortedBy
least-first p [] rising = refl
least-first p (n ∷ ns) rising =
    elim (p n) as (λ b. least (cond b (n ∷ filter p ns) (filter p ns)) ≡ cond b (Some n) (find p ns)) [
      | true ↦ ap Some (lesser-first n (least (filter p ns)) (least_above n (filter p ns) (passing_above p n ns rising.0)))
      | false ↦ least-first p ns rising.1
    ]

-- if there is no least of them, there is no first
pub none_first_of : (p : List ℕ → Bool) (ns : List (List ℕ)) → least (filter p ns) ≡ None → find p ns ≡ None
none_first_of p [] none = refl
none_first_of p (n ∷ ns) none =
    elim (p n) as (λ b. least (cond b (n ∷ filter p ns) (filter p ns)) ≡ None → cond b (Some n) (find p ns) ≡ None) [
      | true ↦ λ never. cc
      | false ↦ λ rest. none_first_of p ns rest
    ] none
