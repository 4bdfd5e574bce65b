-- A whole turn of a pass.
use Rattle.std.proofs.Common.{◌≡◌, ℕ, List, [], ◌∷◌, Option, sym, ap, ◌∙◌, subst}
use Rattle.atomic_table.specs.Seated.{TableId}
use Rattle.atomic_table.specs.Table.{Me, rest}
use Rattle.turnstile.specs.declared.view.View.{View}
use Rattle.turnstile.specs.Meaning.{Meaning, GoesOn}
use Rattle.turnstile.specs.Rule.{waiting_view, turn_view}
use Rattle.turnstile.specs.Steps.{GoesOnFrom, view_after}
use Rattle.turnstile.specs.Passes.{PassView, pass_of, view_of, pass_after, IsTurn}
use Rattle.turnstile.proofs.Closing.{all_of_each}
use Rattle.turnstile.proofs.Dealing.{is_pass}

held : {T : Type 0} → T → List (ℕ × T) → T
held d [] = d
held d (x ∷ xs) = x.1

value_lent : {S E D : Type 0} (me : Me S (View E D)) (v : View E D) (x now : S) → me ≡ (v, (0, x) ∷ []) → me.1 ≡ (0, now) ∷ rest me.1 → now ≡ x
unfolding held
value_lent {S} {E} {D} me v x now e is = sym (ap (held now) is) ∙ ap (λ (q : Me S (View E D)). held now q.1) e

module _ {T E D : Type 0} where
  -- what holds for the value that was lent holds for the one that the seat has
  pub at_turn : (P : T → Type 0) (me : Me T (View E D)) (v : View E D) (x now : T) → me ≡ (v, (0, x) ∷ []) → me.1 ≡ (0, now) ∷ rest me.1 → P now → P x
  at_turn P me v x now e is h = subst P (value_lent me v x now e is) h

  -- the seat after a write
  pub written : (me : Me T (View E D)) (v : View E D) (x y : T) → me ≡ (v, (0, x) ∷ []) → ◌≡◌ {A = Me T (View E D)} (me.0, (0, y) ∷ rest me.1) (v, (0, y) ∷ [])
  written me v x y e = ap (λ (q : Me T (View E D)). (q.0, (0, y) ∷ rest q.1)) e

module _ {T E D : Type 0} (m : Meaning T E D) where
  -- the seat of a pass after its turn
  pub passed_on : (p : PassView E D) (t : ℕ) (x y : T) (said : Option D) (me after : Me T (View E D))
      → me ≡ (turn_view (waiting_view (view_of p) t) (m.entries x) (m.faults x), (0, y) ∷ [])
      → ((z : T) → me.1 ≡ (0, z) ∷ [] → after ≡ (view_after m said me.0 z, [])) → after ≡ (view_of (pass_after m p said x y), [])
  passed_on p t x y said me after e told =
      told y (ap (λ (q : Me T (View E D)). q.1) e) ∙ ap (λ (q : Me T (View E D)). (view_after m said q.0 y, [])) e

  pub still_pass : (p : PassView E D) (x y : T) (said : Option D) (table : TableId) (after : Me T (View E D)) → after ≡ (view_of (pass_after m p said x y), [])
      → after ≡ (view_of (pass_of table (after.0 ∷ [])), [])
  still_pass p x y said table after e = is_pass table after (pass_after m p said x y) e

  pub turn_is : (p : PassView E D) (x y : T) (said : Option D) (table : TableId) (after : Me T (View E D)) (q : PassView E D) → GoesOnFrom m (view_of p) x → GoesOn m x y
      → after ≡ (view_of (pass_after m p said x y), []) → table ≡ p.table → q ≡ pass_of table (after.0 ∷ []) → IsTurn m p said x y q
  turn_is p x y said table after q from turn e same made =
      record {
        seen = from.seen;
        stays = from.stays.0;
        told = all_of_each _ p.told from.told.0;
        turn = turn;
        after_is = made ∙ ap (λ (r : Me T (View E D)). pass_of table (r.0 ∷ [])) e ∙ ap (λ (i : TableId). pass_of i (view_of (pass_after m p said x y) ∷ [])) same;
      }
