-- What a seat's stage says, and the stages of two seats.
use Rattle.std.proofs.Common.{◌≡◌, ◌≢◌, ℕ, zero, suc, ◌≤◌, ◌<◌, if◌then◌else◌, ◌⊎◌, inl, inr, ⊎_elim, List, [], ◌∷◌, length, refl, sym, ap, arith}
use Rattle.std.proofs.lemmas.Bool.Decides.{leb_tells}
use mathlib.Core.Option.{some, some-ne-none}
use lib.ListN.{get_elem?}
use Rattle.turnstile.specs.declared.view.Stage.{Stage}
use Rattle.turnstile.specs.declared.view.View.{View}
use Rattle.turnstile.specs.Lists.{total}
use Rattle.turnstile.specs.Meaning.{Meaning}
use Rattle.turnstile.specs.Rule.{Past, busy_at, in_turn_at, busy, in_turn, passes, number_count, once_below, ViewsFit}
use Rattle.turnstile.proofs.Totals.{total_at, total_two, total_below}

pub at_below : {A : Type 0} (l : List A) (i : ℕ) (a : A) → get_elem? l i ≡ some a → i < length l
at_below [] i a e = absurd (some-ne-none a (sym e))
at_below (x ∷ xs) zero a e = omega arith
at_below (x ∷ xs) (suc i) a e = let h = at_below xs i a e in omega (arith, h)

at_stage : (s : Stage) → (busy_at s ≡ 0) ⊎ (busy_at s ≡ 1)
at_stage Stage.Idle = inl refl
at_stage Stage.Waiting = inr refl
at_stage Stage.InTurn = inr refl

in_turn_busy_at : (s : Stage) → in_turn_at s ≡ 1 → busy_at s ≡ 1
in_turn_busy_at Stage.Idle e = absurd (omega (arith, e))
in_turn_busy_at Stage.Waiting e = refl
in_turn_busy_at Stage.InTurn e = refl

pub in_turn_busy : {E D : Type 0} (v : View E D) → in_turn v ≡ 1 → busy v ≡ 1
in_turn_busy v e = in_turn_busy_at v.stage e

pub once_below_most : (k n : ℕ) → once_below k n ≤ 1
once_below_most k n = ⊎_elim
    (λ t. let e : once_below k n ≡ 1 = ap (λ b. if b then 1 else 0) t.0 in omega (arith, e))
    (λ t. let e : once_below k n ≡ 0 = ap (λ b. if b then 1 else 0) t.0 in omega (arith, e))
    (leb_tells (suc k) n)

pub below_by_once : (k n : ℕ) → 1 ≤ once_below k n → k < n
below_by_once k n h = ⊎_elim (λ t. t.1)
    (λ t. let e : once_below k n ≡ 0 = ap (λ b. if b then 1 else 0) t.0 in absurd (omega (arith, e, h)))
    (leb_tells (suc k) n)

pub once_at_below : (k n : ℕ) → k < n → once_below k n ≡ 1
once_at_below k n h = ⊎_elim (λ t. ap (λ b. if b then 1 else 0) t.0) (λ t. absurd (omega (arith, h, t.1))) (leb_tells (suc k) n)

pub once_from : (k n : ℕ) → n ≤ k → once_below k n ≡ 0
once_from k n h = ⊎_elim (λ t. absurd (omega (arith, h, t.1))) (λ t. ap (λ b. if b then 1 else 0) t.0) (leb_tells (suc k) n)

module _ {T E D : Type 0} (m : Meaning T E D) (opened : T) (n : ℕ) (past : Past E D) (views : List (View E D)) (fit : ViewsFit m opened n past views) where
  -- no more tickets are out than there are passes
  pub tickets_few : total busy views ≤ n
  tickets_few =
      let below = total_below busy passes views (λ i v at. ⊎_elim (λ e. omega (arith, e)) (λ e. let t = (fit.each i v at).ticket e in omega (arith, e, t.2)) (at_stage v.stage)) in
      let count = fit.count in
      omega (arith, below, count)

  -- the number of an account of one seat is in no account of another
  pub no_other : (k i j : ℕ) (v w : View E D) → i ≢ j → get_elem? views i ≡ some v → get_elem? views j ≡ some w → 1 ≤ number_count k v → number_count k w ≡ 0
  no_other k i j v w apart p q one =
      let two = total_two (number_count k) views i j v w apart p q in
      let all = fit.numbers k in
      let most = once_below_most k n in
      omega (arith, two, all, most, one)

  -- the number of an account is below the number of passes
  pub number_below : (k i : ℕ) (v : View E D) → get_elem? views i ≡ some v → 1 ≤ number_count k v → k < n
  number_below k i v p one =
      let some_view = total_at (number_count k) views i v p in
      let all = fit.numbers k in
      below_by_once k n (omega (arith, some_view, all, one))
