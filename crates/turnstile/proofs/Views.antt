-- Lists of views in which one changes, or that grow by one.
use Rattle.std.proofs.Common.{◌≡◌, ◌≢◌, ℕ, List, [], ◌∷◌, ◌++◌, set, sym, ap, ◌∙◌, subst, inl, inr, ⊎_elim, arith}
use mathlib.Core.Option.{Option, some, some-injective}
use lib.ListN.{get_elem?}
use Rattle.atomic_table.proofs.Lists.{at_set, at_snoc, at_longer, set_else}
use Rattle.turnstile.specs.declared.view.Account.{Account}
use Rattle.turnstile.specs.declared.view.View.{View}
use Rattle.turnstile.specs.Lists.{Each, IsPrefix}
use Rattle.turnstile.specs.Meaning.{Meaning}
use Rattle.turnstile.specs.Rule.{Past, busy, in_turn, idle_view, AccountFits, ViewFits, IsHome}

-- ---- a fact of each element

pub each_set : {V : Type 0} (P : V → Type 0) (l : List V) (i : ℕ) (w : V) → P w → ((j : ℕ) (v : V) → j ≢ i → get_elem? l j ≡ some v → P v) → (j : ℕ) (v : V) → get_elem? (set l i w) j ≡ some v → P v
each_set P l i w here else j v e = ⊎_elim (λ t. subst P t.1 here) (λ t. else j v t.0 t.1) (at_set l i j w v e)

pub each_snoc : {V : Type 0} (P : V → Type 0) (l : List V) (w : V) → P w → ((j : ℕ) (v : V) → get_elem? l j ≡ some v → P v) → (j : ℕ) (v : V) → get_elem? (l ++ w ∷ []) j ≡ some v → P v
each_snoc P l w last h j v e = ⊎_elim (λ t. h j v t) (λ t. subst P t last) (at_snoc l w v j e)

pub Each_append : {X : Type 0} (P : X → Type 0) (xs ys : List X) → Each P xs → Each P ys → Each P (xs ++ ys)
Each_append P [] ys h k = k
Each_append P (x ∷ xs) ys h k = (h.0, Each_append P xs ys h.1 k)

pub Each_map : {X : Type 0} (P Q : X → Type 0) → ((x : X) → P x → Q x) → (xs : List X) → Each P xs → Each Q xs
Each_map P Q f [] h = tt
Each_map P Q f (x ∷ xs) h = (f x h.0, Each_map P Q f xs h.1)

-- ---- each ticket has one seat

module _ {E D : Type 0} where
  abbrev pub Own : List (View E D) → Type 0
  Own views = (i j : ℕ) (v w : View E D) → get_elem? views i ≡ some v → get_elem? views j ≡ some w →
      busy v ≡ 1 → busy w ≡ 1 → v.ticket ≡ w.ticket → i ≡ j

  pub own_set : (views : List (View E D)) (i : ℕ) (w : View E D) → Own views
      → ((j : ℕ) (v : View E D) → j ≢ i → get_elem? views j ≡ some v → busy v ≡ 1 → busy w ≡ 1 → v.ticket ≢ w.ticket) → Own (set views i w)
  own_set views i w h n j k a b p q ba bb e =
      ⊎_elim
      (λ s. ⊎_elim (λ t. s.0 ∙ sym t.0)
      (λ t. absurd (n k b t.0 t.1 bb (subst (λ (x : View E D). busy x ≡ 1) (sym s.1) ba) (sym e ∙ ap (λ (x : View E D). x.ticket) (sym s.1))))
      (at_set views i k w b q))
      (λ s. ⊎_elim (λ t. absurd (n j a s.0 s.1 ba (subst (λ (x : View E D). busy x ≡ 1) (sym t.1) bb) (e ∙ ap (λ (x : View E D). x.ticket) (sym t.1))))
      (λ t. h j k a b s.1 t.1 ba bb e)
      (at_set views i k w b q))
      (at_set views i j w a p)

  pub own_idle : (views : List (View E D)) (i : ℕ) (w : View E D) → busy w ≡ 0 → Own views → Own (set views i w)
  own_idle views i w idle h = own_set views i w h (λ j v n p bv bw. absurd (omega (arith, idle, bw)))

  pub own_snoc : (views : List (View E D)) (w : View E D) → busy w ≡ 0 → Own views → Own (views ++ w ∷ [])
  own_snoc views w idle h i j a b p q ba bb e =
      ⊎_elim
      (λ s. ⊎_elim (λ t. h i j a b s t ba bb e) (λ t. absurd (let z : busy w ≡ 1 = subst (λ (x : View E D). busy x ≡ 1) (sym t) bb in omega (arith, idle, z)))
      (at_snoc views w b j q))
      (λ s. absurd (let z : busy w ≡ 1 = subst (λ (x : View E D). busy x ≡ 1) (sym s) ba in omega (arith, idle, z)))
      (at_snoc views w a i p)

-- ---- where the value is

module _ {T E D : Type 0} (m : Meaning T E D) (opened : T) where
  pub home_set : (past : Past E D) (homes : List (Option T)) (views : List (View E D)) (id : ℕ) (v w : View E D)
      → get_elem? views id ≡ some v → in_turn v ≡ 0 → IsHome m opened past homes views → IsHome m opened past homes (set views id w)
  home_set past homes views id v w at out h = ⊎_elim (λ t. inl t)
      (λ t. let other : t.1.0 ≢ id = (λ e. let same : v ≡ t.1.1 = some-injective v t.1.1 (sym at ∙ ap (get_elem? views) (sym e) ∙ t.1.2) in
      let z : in_turn v ≡ 1 = subst (λ (x : View E D). in_turn x ≡ 1) (sym same) t.1.3 in omega (arith, out, z)) in
      inr (t.0, (t.1.0, t.1.1, set_else views id t.1.0 w other ∙ t.1.2, t.1.3)))
      h

  pub home_snoc : (past : Past E D) (homes : List (Option T)) (views : List (View E D)) (w : View E D)
      → IsHome m opened past homes views → IsHome m opened past homes (views ++ w ∷ [])
  home_snoc past homes views w h = ⊎_elim (λ t. inl t) (λ t. inr (t.0, (t.1.0, t.1.1, at_longer views (w ∷ []) t.1.0 t.1.1 t.1.2, t.1.3))) h

  pub idle_fits : (past : Past E D) (seen aside : List E) (accounts : List (Account D)) → IsPrefix seen past.history → IsPrefix aside past.history
      → Each (AccountFits m opened past.makers past.members) accounts → ViewFits m opened past (idle_view seen aside accounts)
  idle_fits past seen aside accounts p q h =
      record { seen = p; aside = q; accounts = h; ticket = λ e. absurd (omega (arith, e)); turn = λ e. absurd (omega (arith, e)) }
