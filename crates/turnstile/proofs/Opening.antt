-- A new turnstile: the value is at home, and the first seat has the accounts of all passes.
use Rattle.std.proofs.Common.{◌≡◌, ℕ, zero, suc, ◌+◌, ◌≤◌, ◌<◌, ◌^◌, inl, ⊎_elim, List, [], ◌∷◌, length, append-nil, refl, sym, ap, ◌∙◌, subst, le_refl, arith}
use Rattle.std.proofs.lemmas.Bool.Decides.{leb_tells}
use mathlib.Core.Option.{some, some-injective, some-ne-none}
use lib.ListN.{get_elem?}
use Rattle.atomic_table.specs.Table.{opening}
use Rattle.turnstile.specs.declared.view.View.{View}
use Rattle.turnstile.specs.Lists.{Each}
use Rattle.turnstile.specs.Meaning.{Meaning}
use Rattle.turnstile.specs.Rule.{Past, with_number, once_below, accounts_from, idle_view, AccountFits, ViewFits, IsKept}
use Rattle.turnstile.proofs.Prefixes.{prefix_self, prefix_none}
use Rattle.turnstile.proofs.Views.{idle_fits}
use Rattle.turnstile.proofs.Accounts.{if_same, if_other}
use Rattle.turnstile.proofs.Seats.{once_at_below, once_from}

module _ (D : Type 0) (stays : List ℕ) where
  accounts_length : (k n : ℕ) → length (accounts_from {D = D} k n stays) ≡ n
  accounts_length k zero = refl
  accounts_length k (suc n) = let e = accounts_length (k + 1) n in omega (arith, e)

  number_early : (k j n : ℕ) → k < j → with_number k (accounts_from {D = D} j n stays) ≡ 0
  number_early k j zero h = refl
  number_early k j (suc n) h = let e = number_early k (j + 1) n (omega (arith, h)) in let o = if_other {A = ℕ} k j 1 0 (λ s. omega (arith, h, s)) in omega (arith, e, o)

  number_late : (k j n : ℕ) → j + n ≤ k → with_number k (accounts_from {D = D} j n stays) ≡ 0
  number_late k j zero h = refl
  number_late k j (suc n) h = let e = number_late k (j + 1) n (omega (arith, h)) in let o = if_other {A = ℕ} k j 1 0 (λ s. omega (arith, h, s)) in omega (arith, e, o)

  number_there : (k j n : ℕ) → j ≤ k → k < j + n → with_number k (accounts_from {D = D} j n stays) ≡ 1
  number_there k j zero h l = absurd (omega (arith, h, l))
  number_there k j (suc n) h l = ⊎_elim
      (λ t. let e = number_there k (j + 1) n (omega (arith, t.1)) (omega (arith, l)) in let o = if_other {A = ℕ} k j 1 0 (λ s. omega (arith, t.1, s)) in omega (arith, e, o))
      (λ t. let e = number_early k (j + 1) n (omega (arith, t.1)) in let o = if_same {A = ℕ} k j 1 0 (omega (arith, h, t.1)) in omega (arith, e, o))
      (leb_tells (suc j) k)

  -- each of the n numbers exactly once
  numbers_once : (k n : ℕ) → with_number k (accounts_from {D = D} 0 n stays) ≡ once_below k n
  numbers_once k n = ⊎_elim
      (λ t. number_there k 0 n (omega arith) (omega (arith, t.1)) ∙ sym (once_at_below k n t.1))
      (λ t. number_late k 0 n (omega (arith, t.1)) ∙ sym (once_from k n (omega (arith, t.1))))
      (leb_tells (suc k) n)

at_only : {V : Type 0} (v u : V) (i : ℕ) → get_elem? (v ∷ []) i ≡ some u → (i ≡ 0) × (v ≡ u)
at_only v u zero e = (refl, some-injective v u e)
at_only v u (suc i) e = absurd (some-ne-none u (sym e))

module _ {T E : Type 0} (D : Type 0) (m : Meaning T E D) (opened : T) where
  nothing_made : (k n : ℕ) → Each (AccountFits {D = D} m opened [] []) (accounts_from k n (m.stays opened))
  nothing_made k zero = tt
  nothing_made k (suc n) = (record { mine = refl; told = refl; stays = refl }, nothing_made (k + 1) n)

  pub opens : (n : ℕ) (events : List ℕ) → n < 2 ^ 64
      → IsKept {D = D} m opened n (opening (0 ∷ 0 ∷ events) (opened ∷ []) (idle_view (m.entries opened) [] (accounts_from 0 n (m.stays opened))))
  opens n events few =
      let v : View E D = idle_view (m.entries opened) [] (accounts_from 0 n (m.stays opened)) in
      let past : Past E D = record { serving = 0; drawn = 0; history = m.entries opened; makers = []; members = [] } in
      let fits = idle_fits m opened past (m.entries opened) [] (accounts_from 0 n (m.stays opened)) (prefix_self (m.entries opened)) (prefix_none (m.entries opened)) (nothing_made 0 n) in
      record {
        past = past;
        events = events;
        words = refl;
        few = few;
        views = record {
          each = λ id u at. subst (ViewFits m opened past) (at_only v u id at).1 fits;
          tickets = refl;
          own = λ i j a b p q ba bb e. (at_only v a i p).0 ∙ sym (at_only v b j q).0;
          count = let l = accounts_length D (m.stays opened) 0 n in omega (arith, l);
          numbers = λ k. let once = numbers_once D (m.stays opened) k n in omega (arith) ∙ once;
        };
        so_far = record { list = ([], sym (append-nil (m.entries opened)), refl); makers = tt; faults = tt; told = tt };
        home = inl (opened, refl, refl, refl, le_refl (m.faults opened));
      }

  pub opens_at : (n : ℕ) (events : List ℕ) (x : T) (items : List T) → n < 2 ^ 64 → items ≡ x ∷ [] → opened ≡ x
      → IsKept {D = D} m opened n (opening (0 ∷ 0 ∷ events) items (idle_view (m.entries opened) [] (accounts_from 0 n (m.stays opened))))
  opens_at n events x items few e same =
      subst (λ (l : List T). IsKept {D = D} m opened n (opening (0 ∷ 0 ∷ events) l (idle_view (m.entries opened) [] (accounts_from 0 n (m.stays opened)))))
      (sym (e ∙ ap (λ (y : T). y ∷ []) (sym same))) (opens n events few)
