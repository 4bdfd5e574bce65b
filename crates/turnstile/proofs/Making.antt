-- Places and their makers.
use Rattle.std.proofs.Common.{◌≡◌, ℕ, zero, suc, ◌+◌, ◌≤◌, ◌<◌, ◌⊎◌, inl, inr, ⊎_elim, List, [], ◌∷◌, length, get_or, refl, sym, subst, Contains, arith}
use Rattle.std.proofs.lemmas.Bool.Decides.{eqb_tells}
use Rattle.turnstile.specs.Lists.{Each}
use Rattle.turnstile.specs.Rule.{made_by}
use Rattle.turnstile.proofs.Views.{Each_map}
use Rattle.turnstile.proofs.Accounts.{if_same, if_other}

-- the place is in the list
IsIn : ℕ → List ℕ → Type 0
IsIn place [] = ⊥
IsIn place (x ∷ xs) = (x ≡ place) ⊎ IsIn place xs

contains_in : (place : ℕ) (xs : List ℕ) (k : ℕ) → k < length xs → get_or xs k place ≡ place → IsIn place xs
unfolding IsIn
contains_in place [] k h e = absurd (omega (arith, h))
contains_in place (x ∷ xs) zero h e = inl e
contains_in place (x ∷ xs) (suc k) h e = inr (contains_in place xs k (omega (arith, h)) e)

in_contains : (place : ℕ) (xs : List ℕ) → IsIn place xs → Contains xs place
unfolding IsIn
in_contains place [] h = absurd h
in_contains place (x ∷ xs) h = ⊎_elim (λ e. (0, omega arith, e)) (λ r. let c = in_contains place xs r in (suc c.0, omega (arith, c.1), c.2)) h

each_in : (P : ℕ → Type 0) (place : ℕ) (xs : List ℕ) → Each P xs → IsIn place xs → P place
unfolding IsIn
each_in P place [] h i = absurd i
each_in P place (x ∷ xs) h i = ⊎_elim (λ e. subst P e h.0) (λ r. each_in P place xs h.1 r) i

-- what a pass made is between the first place and the last
pub made_within : (k at : ℕ) (makers : List ℕ) → Each (λ place. (at ≤ place) × (place < at + length makers)) (made_by k at makers)
made_within k at [] = tt
made_within k at (x ∷ xs) =
    let rest = Each_map (λ (place : ℕ). (at + 1 ≤ place) × (place < at + 1 + length xs)) (λ (place : ℕ). (at ≤ place) × (place < at + length (x ∷ xs)))
    (λ place h. (omega (arith, h.0), omega (arith, h.1))) (made_by k (at + 1) xs) (made_within k (at + 1) xs) in
    ⊎_elim
    (λ t. subst (Each (λ (place : ℕ). (at ≤ place) × (place < at + length (x ∷ xs)))) (sym (if_same k x (at ∷ made_by k (at + 1) xs) (made_by k (at + 1) xs) t.1)) ((omega arith, omega arith), rest))
    (λ t. subst (Each (λ (place : ℕ). (at ≤ place) × (place < at + length (x ∷ xs)))) (sym (if_other k x (at ∷ made_by k (at + 1) xs) (made_by k (at + 1) xs) t.1)) rest)
    (eqb_tells k x)

-- a place among them has one maker
pub record Maker (place at : ℕ) (P : ℕ → Type 0) (makers : List ℕ) : Type 0 where
  pub k : ℕ
  pub is : P k
  pub made : Contains (made_by k at makers) place
  pub only : (j : ℕ) → Contains (made_by j at makers) place → j ≡ k

record MakerIn (place at : ℕ) (P : ℕ → Type 0) (makers : List ℕ) : Type 0 where
  pub k : ℕ
  pub is : P k
  pub made : IsIn place (made_by k at makers)
  pub only : (j : ℕ) → IsIn place (made_by j at makers) → j ≡ k

maker_in : (place at : ℕ) (P : ℕ → Type 0) (makers : List ℕ) → Each P makers → at ≤ place → place < at + length makers → MakerIn place at P makers
unfolding IsIn
maker_in place at P [] h low high = absurd (omega (arith, low, high))
maker_in place at P (x ∷ xs) h low high = ⊎_elim
    (λ t. record {
      k = x;
      is = h.0;
      made = subst (IsIn place) (sym (if_same x x (at ∷ made_by x (at + 1) xs) (made_by x (at + 1) xs) refl)) (inl t.1);
      only = λ j i. ⊎_elim (λ s. s.1)
          (λ s. let late = each_in (λ q. (at + 1 ≤ q) × (q < at + 1 + length xs)) place (made_by j (at + 1) xs) (made_within j (at + 1) xs)
          (subst (IsIn place) (if_other j x (at ∷ made_by j (at + 1) xs) (made_by j (at + 1) xs) s.1) i) in let same = t.1 in absurd (omega (arith, late.0, same)))
          (eqb_tells j x);
    })
    (λ t. let r = maker_in place (at + 1) P xs h.1 (let ne = t.1 in omega (arith, low, ne)) (omega (arith, high)) in
    record {
      k = r.k;
      is = r.is;
      made = ⊎_elim
          (λ s. subst (IsIn place) (sym (if_same r.k x (at ∷ made_by r.k (at + 1) xs) (made_by r.k (at + 1) xs) s.1)) (inr r.made))
          (λ s. subst (IsIn place) (sym (if_other r.k x (at ∷ made_by r.k (at + 1) xs) (made_by r.k (at + 1) xs) s.1)) r.made)
          (eqb_tells r.k x);
      only = λ j i. ⊎_elim
          (λ s. ⊎_elim (λ e. absurd (t.1 e)) (λ q. r.only j q)
          (subst (IsIn place) (if_same j x (at ∷ made_by j (at + 1) xs) (made_by j (at + 1) xs) s.1) i))
          (λ s. r.only j (subst (IsIn place) (if_other j x (at ∷ made_by j (at + 1) xs) (made_by j (at + 1) xs) s.1) i))
          (eqb_tells j x);
    })
    (eqb_tells at place)

pub maker : (place at : ℕ) (P : ℕ → Type 0) (makers : List ℕ) → Each P makers → at ≤ place → place < at + length makers → Maker place at P makers
maker place at P makers h low high =
    let r = maker_in place at P makers h low high in
    record { k = r.k; is = r.is; made = in_contains place (made_by r.k at makers) r.made; only = λ j c. r.only j (contains_in place (made_by j at makers) c.0 c.1 c.2) }
