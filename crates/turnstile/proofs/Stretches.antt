-- Stretches of faults that passes were told.
use Rattle.std.proofs.Common.{◌≡◌, ◌≢◌, ℕ, zero, suc, ◌+◌, ◌≤◌, ◌⊎◌, inl, inr, ⊎_elim, List, [], ◌∷◌, refl, sym, ap, ◌∙◌, subst, Option, Some, None, slice_get, arith}
use Rattle.std.proofs.lemmas.Bool.Decides.{eqb_tells}
use Rattle.turnstile.specs.declared.view.Member.{Member}
use Rattle.turnstile.specs.Lists.{Each}
use Rattle.turnstile.specs.Rule.{told_to, InOrder, last_count}
use Rattle.turnstile.proofs.Accounts.{if_same, if_other, Between, told_between}

value_of : {X : Type 0} → X → Option X → X
value_of d (Some x) = x
value_of d None = d

pub same_value : {X : Type 0} (x y : X) → ◌≡◌ {A = Option X} (Some x) (Some y) → x ≡ y
unfolding value_of
same_value x y e = ap (value_of x) e

is_there : {X : Type 0} → Option X → Type 0
is_there (Some x) = Unit {0}
is_there None = ⊥

pub nothing_there : {X : Type 0} (x : X) → ◌≡◌ {A = Option X} None (Some x) → ⊥
unfolding is_there
nothing_there x e = subst is_there (sym e) tt

pub each_at : {X : Type 0} (P : X → Type 0) (xs : List X) (i : ℕ) (x : X) → Each P xs → slice_get xs i ≡ Some x → P x
each_at P [] i x h e = absurd (nothing_there x e)
each_at P (y ∷ xs) zero x h e = subst P (same_value y x e) h.0
each_at P (y ∷ xs) (suc i) x h e = each_at P xs i x h.1 e

module _ {D : Type 0} where
  -- of two stretches one ends before the other starts, or at its start
  abbrev pub ApartAt : Member D → Member D → Type 0
  ApartAt s t = (s.to ≤ t.from) ⊎ (t.to ≤ s.from)

  -- a stretch that was told later starts after the earlier one
  later : (k j b : ℕ) (u : ℕ × Member D) (us : List (ℕ × Member D)) (t : Member D) → InOrder u.1.to us → slice_get (told_to j us) b ≡ Some t → u.1.to ≤ t.from
  later k j b u us t h e = (each_at (Between u.1.to (last_count u.1.to us)) (told_to j us) b t (told_between j u.1.to us h) e).from

  -- the place of a member among those of later turns
  abbrev Later : ℕ → ℕ × Member D → List (ℕ × Member D) → ℕ → Member D → Type 0
  Later k u us a s = (b : ℕ) × (slice_get (told_to k us) b ≡ Some s) × ((k ≡ u.0) → a ≡ b + 1) × ((k ≢ u.0) → a ≡ b)

  step_same : (k : ℕ) (u : ℕ × Member D) (us : List (ℕ × Member D)) (a : ℕ) (s : Member D) → k ≡ u.0 → slice_get (u.1 ∷ told_to k us) a ≡ Some s
      → ((k ≡ u.0) × (a ≡ 0) × (u.1 ≡ s)) ⊎ Later k u us a s
  step_same k u us zero s same e = inl (same, refl, same_value u.1 s e)
  step_same k u us (suc i) s same e = inr (i, e, (λ _. omega arith), (λ n. absurd (n same)))

  -- a member was told in the first turn, or in a later one
  step_at : (k : ℕ) (u : ℕ × Member D) (us : List (ℕ × Member D)) (a : ℕ) (s : Member D) → slice_get (told_to k (u ∷ us)) a ≡ Some s
      → ((k ≡ u.0) × (a ≡ 0) × (u.1 ≡ s)) ⊎ Later k u us a s
  step_at k u us a s e = ⊎_elim
      (λ t. step_same k u us a s t.1 (ap (λ l. slice_get l a) (sym (if_same k u.0 (u.1 ∷ told_to k us) (told_to k us) t.1)) ∙ e))
      (λ t. inr (a, ap (λ l. slice_get l a) (sym (if_other k u.0 (u.1 ∷ told_to k us) (told_to k us) t.1)) ∙ e, (λ same. absurd (t.1 same)), (λ _. refl)))
      (eqb_tells k u.0)

  still_apart : (k j a b : ℕ) (u : ℕ × Member D) (us : List (ℕ × Member D)) (s t : Member D) → (x : Later k u us a s) (y : Later j u us b t)
      → (k ≢ j) ⊎ (a ≢ b) → (k ≢ j) ⊎ (x.0 ≢ y.0)
  still_apart k j a b u us s t x y n = ⊎_elim (λ d. inl d)
      (λ d. ⊎_elim
      (λ e. ⊎_elim
      (λ h. inr (λ same. d (x.2 h.1 ∙ ap (λ (i : ℕ). i + 1) same ∙ sym (y.2 (sym e.1 ∙ h.1)))))
      (λ h. inr (λ same. d (x.3 h.1 ∙ same ∙ sym (y.3 (λ q. h.1 (e.1 ∙ q))))))
      (eqb_tells k u.0))
      (λ e. inl e.1)
      (eqb_tells k j))
      n

  pub stretches_apart : (f k j a b : ℕ) (s t : Member D) (members : List (ℕ × Member D)) → InOrder f members
      → slice_get (told_to k members) a ≡ Some s → slice_get (told_to j members) b ≡ Some t → (k ≢ j) ⊎ (a ≢ b) → ApartAt s t
  stretches_apart f k j a b s t [] h p q n = absurd (nothing_there s p)
  stretches_apart f k j a b s t (u ∷ us) h p q n = ⊎_elim
      (λ x. ⊎_elim
      (λ y. absurd (⊎_elim (λ d. d (x.0 ∙ sym y.0)) (λ d. d (x.1 ∙ sym y.1)) n))
      (λ y. inl (subst (λ (z : Member D). z.to ≤ t.from) x.2 (later k j y.0 u us t h.2 y.1)))
      (step_at j u us b t q))
      (λ x. ⊎_elim
      (λ y. inr (subst (λ (z : Member D). z.to ≤ s.from) y.2 (later j k x.0 u us s h.2 x.1)))
      (λ y. stretches_apart u.1.to k j x.0 y.0 s t us h.2 x.1 y.1 (still_apart k j a b u us s t x y n))
      (step_at j u us b t q))
      (step_at k u us a s p)
