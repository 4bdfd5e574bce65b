-- A seat raises an event count.
use Rattle.std.proofs.Common.{◌≡◌, ℕ, zero, suc, ◌+◌, ◌≤◌, ◌%◌, ◌^◌, List, ◌∷◌, set, get_or, refl, sym, ap, ◌∙◌, subst, arith}
use Rattle.atomic_table.specs.Table.{Allows, Me, keeps}
use Rattle.atomic_table.proofs.Lists.{set_again}
use Rattle.turnstile.specs.declared.view.View.{View}
use Rattle.turnstile.specs.Meaning.{Meaning}
use Rattle.turnstile.specs.Rule.{ViewsFit, IsHome, IsKept}
use Rattle.turnstile.specs.Steps.{Notifies}
use Rattle.turnstile.proofs.Parting.{any_step}

-- the first two words are unchanged
words_notified : (a b word k : ℕ) (events : List ℕ) → 2 ≤ word → (counts : List ℕ) × (set (a ∷ b ∷ events) word k ≡ a ∷ b ∷ counts)
words_notified a b zero k events h = absurd (omega (arith, h))
words_notified a b (suc zero) k events h = absurd (omega (arith, h))
words_notified a b (suc (suc i)) k events h = (set events i k, refl)

module _ {T E D : Type 0} (m : Meaning T E D) (opened : T) (n : ℕ) where
  pub notifies : (slots id : ℕ) (me : Me T (View E D)) (word : ℕ) → 2 ≤ word
      → Allows (IsKept {D = D} m opened n) slots id me word (λ k. (k + 1) % 2 ^ 64) (Notifies any_step me)
  notifies slots id me word high s kept few at low =
      let past = kept.past in
      let k = (get_or s.words word 0 + 1) % 2 ^ 64 in
      let counts = words_notified (past.drawn % 2 ^ 64) (past.serving % 2 ^ 64) word k kept.events high in
      let same = set_again s.views id me.0 at in (
        me.0,
        keeps,
        tt,
        record {
          past = past;
          events = counts.0;
          words = ap (λ (ws : List ℕ). set ws word k) kept.words ∙ counts.1;
          few = kept.few;
          so_far = kept.so_far;
          views = subst (ViewsFit m opened n past) (sym same) kept.views;
          home = subst (λ (vs : List (View E D)). IsHome m opened past s.homes vs) (sym same) kept.home;
        },
        refl,
      )
