-- Searches among the values of a finite map: what is found is held under a key, and what is held is found.
use Rattle.std.specs.Prelude.{◌≡◌, Bool, true, false, ◌&&◌, cond, List, [], ◌∷◌, map, find, Some, None}
use Rattle.std.specs.Cmp.{IsTotalOrder, tied_itself}
use Rattle.std.specs.FinMap.{FinMap, get, values, entries, entries_sorted, get-entries}
use Rattle.std.specs.FinMap.Entries as Entries
use Rattle.std.specs.Ordering.{is_lt, is_eq, eq_by_cmp}
use Rattle.std.specs.declared.cmp.Ordering.{Ordering}
use Rattle.std.specs.declared.cmp.Ordering.TheVariants.{Less, Equal, Greater}
use Rattle.std.proofs.Common.{refl, sym, ap, subst, ◌∙◌, T}

first : (a b : Bool) → T (a && b) → T a
first true b p = tt
first false b p = absurd p

second : (a b : Bool) → T (a && b) → T b
second true b p = p
second false b p = absurd p

both : (a b : Bool) → T a → T b → T (a && b)
both true b p q = q
both false b p q = absurd p

tied : (r : Ordering) → is_eq r ≡ true → r ≡ Equal
tied Less p = cc
tied Equal p = refl
tied Greater p = cc

less : (r : Ordering) → T (is_lt r) → is_eq r ≡ false
less Less p = refl
less Equal p = absurd p
less Greater p = absurd p

module _ {K X : Type 0} {R : K → K → Ordering} (o : IsTotalOrder R) where
  -- a key that is equal to one below all is below all
  below_tied : (x y : K) (es : List (K × X)) → R x y ≡ Equal → T (Entries.below_all R y es) → T (Entries.below_all R x es)
  below_tied x y [] p h = tt
  below_tied x y (e ∷ es) p h =
      both _ _ (subst (λ r. T (is_lt r)) (sym (o.congr x y e.0 p)) (first _ _ h)) (below_tied x y es p (second _ _ h))

  find_below : (q : K) (es : List (K × X)) → T (Entries.below_all R q es) → Entries.find R q es ≡ None
  find_below q [] h = refl
  find_below q (e ∷ es) h =
      ap (λ b. cond b (Some e.1) (Entries.find R q es)) (less _ (first _ _ h)) ∙ find_below q es (second _ _ h)

  -- what is found after the first entry has another key
  later : (k : K) (x : X) (e : K × X) (es : List (K × X)) → T (Entries.below_all R e.0 es) → Entries.find R k es ≡ Some x
      → Entries.find R k (e ∷ es) ≡ Some x
  later k x e es below is =
      elim (eq_by_cmp R k e.0) as (λ b. eq_by_cmp R k e.0 ≡ b → cond b (Some e.1) (Entries.find R k es) ≡ Some x) [
        | true ↦ λ t. let none = find_below k es (below_tied k e.0 es (tied _ t) below) in cc
        | false ↦ λ _. is
      ] refl

  found : (p : X → Bool) (x : X) (es : List (K × X)) → T (Entries.is_sorted R es) → find p (map (λ e. e.1) es) ≡ Some x
      → (k : K) × (Entries.find R k es ≡ Some x) × (p x ≡ true)
  found p x [] sorted is = cc
  found p x (e ∷ es) sorted is =
      elim (p e.1) as (λ b. p e.1 ≡ b → cond b (Some e.1) (find p (map (λ e. e.1) es)) ≡ Some x
      → (k : K) × (Entries.find R k (e ∷ es) ≡ Some x) × (p x ≡ true)) [
        | true ↦ λ t is. let same : e.1 ≡ x = cc in
            (e.0, ap (λ r. cond (is_eq r) (Some e.1) (Entries.find R e.0 es)) (tied_itself o e.0) ∙ is, ap p (sym same) ∙ t)
        | false ↦ λ _ is. let rest = found p x es (second _ _ sorted) is in (rest.0, later rest.0 x e es (first _ _ sorted) rest.1, rest.2)
      ] refl is

  held : (p : X → Bool) (k : K) (x : X) (es : List (K × X)) → Entries.find R k es ≡ Some x → p x ≡ true
      → (y : X) × (find p (map (λ e. e.1) es) ≡ Some y)
  held p k x [] is passes = cc
  held p k x (e ∷ es) is passes =
      elim (p e.1) as (λ b. p e.1 ≡ b → (y : X) × (cond b (Some e.1) (find p (map (λ e. e.1) es)) ≡ Some y)) [
        | true ↦ λ _. (e.1, refl)
        | false ↦ λ t. elim (eq_by_cmp R k e.0) as (λ b. cond b (Some e.1) (Entries.find R k es) ≡ Some x → (y : X) × (find p (map (λ e. e.1) es) ≡ Some y)) [
          | true ↦ λ is. let same : e.1 ≡ x = cc in let never : p x ≡ false = ap p (sym same) ∙ t in cc
          | false ↦ λ is. held p k x es is passes
        ] is
      ] refl

  -- what a search finds is held under a key, and passes the test
  pub find-values : (m : FinMap R X) (p : X → Bool) (x : X) → find p (values m) ≡ Some x → (k : K) × (get m k ≡ Some x) × (p x ≡ true)
  find-values m p x is =
      let hit = found p x (entries m) (entries_sorted m) is in
      (hit.0, get-entries m hit.0 ∙ hit.1, hit.2)

  -- if a value that is held passes the test, the search finds one
  pub values-find : (m : FinMap R X) (p : X → Bool) (k : K) (x : X) → get m k ≡ Some x → p x ≡ true → (y : X) × (find p (values m) ≡ Some y)
  values-find m p k x is passes = held p k x (entries m) (sym (get-entries m k) ∙ is) passes
