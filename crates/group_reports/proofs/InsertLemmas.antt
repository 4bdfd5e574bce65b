-- Which keys a set has after one more was added.
use Rattle.std.specs.Prelude.{◌≡◌, Bool, true, false, ◌||◌, List, [], ◌∷◌}
use Rattle.std.specs.BTreeSet.{insert_key}
use Rattle.std.specs.declared.cmp.Ordering.{Ordering}
use Rattle.std.specs.declared.cmp.Ordering.TheVariants.{Equal, Greater, Less}
use Rattle.std.specs.Ordering.{match_ordering}
use Rattle.std.specs.Set.{is_member}
use Rattle.std.proofs.Common.{refl, ap, ◌∙◌}

pub twice : (e f h : Bool) → f ≡ e → (e || h) ≡ (f || (e || h))
twice true true h is = refl
twice true false h is = refl
twice false true h is = absurd cc
twice false false h is = refl

pub swap : (e f h : Bool) → (e || (f || h)) ≡ (f || (e || h))
swap true true h = refl
swap true false h = refl
swap false f h = refl

module _ {K : Type 0} (cmp : K → K → Ordering) (eq : K → K → Bool) (tied : (k x : K) → cmp k x ≡ Equal → k ≡ x) where
  pub insert-has : (xs : List K) (k y : K) → is_member eq (insert_key cmp xs k) y ≡ (eq y k || is_member eq xs y)
  insert-has [] k y = refl
  insert-has (x ∷ xs) k y = by (insert-has xs k y) (cmp k x) refl
    where
      by : is_member eq (insert_key cmp xs k) y ≡ (eq y k || is_member eq xs y) → (o : Ordering) → cmp k x ≡ o
          → is_member eq (match_ordering o (k ∷ x ∷ xs) (x ∷ xs) (x ∷ insert_key cmp xs k)) y ≡ (eq y k || (eq y x || is_member eq xs y))
      by rest Less is = refl
      by rest Equal is = twice (eq y x) (eq y k) (is_member eq xs y) (ap (eq y) (tied k x is))
      by rest Greater is = ap (λ b. eq y x || b) rest ∙ swap (eq y x) (eq y k) (is_member eq xs y)
