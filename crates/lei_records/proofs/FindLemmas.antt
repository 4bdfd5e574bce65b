-- Searches in lists: what is found passes and is a member, and nothing is found if nothing passes.
use Rattle.std.specs.Prelude.{◌≡◌, Bool, List, [], ◌∷◌, true, false, cond, find, Some, None}
use Rattle.std.specs.List.{Contains}
use Rattle.std.proofs.Common.{refl, sym, ap, ◌∙◌, arith}
use Rattle.std.proofs.lemmas.List.Elements.{Contains-append_left, Contains-append_right}

module _ {X : Type 0} (test : X → Bool) where
  pub find-passes : (xs : List X) (x : X) → find test xs ≡ Some x → test x ≡ true
  find-passes [] x found = cc
  find-passes (y ∷ ys) x found =
      elim (test y) as (λ b. test y ≡ b → cond b (Some y) (find test ys) ≡ Some x → test x ≡ true) [
        | true ↦ λ t is. let same : y ≡ x = cc in ap test (sym same) ∙ t
        | false ↦ λ _ is. find-passes ys x is
      ] refl found

  pub find-member : (xs : List X) (x : X) → find test xs ≡ Some x → Contains xs x
  find-member [] x found = cc
  find-member (y ∷ ys) x found =
      elim (test y) as (λ b. cond b (Some y) (find test ys) ≡ Some x → Contains (y ∷ ys) x) [
        | true ↦ λ is. let same : y ≡ x = cc in Contains-append_left (y ∷ []) ys x (0, omega arith, same)
        | false ↦ λ is. Contains-append_right (y ∷ []) ys x (find-member ys x is)
      ] found

  pub find-none : (xs : List X) → ((x : X) → test x ≡ false) → find test xs ≡ None
  find-none [] never = refl
  find-none (x ∷ xs) never = ap (λ b. cond b (Some x) (find test xs)) (never x) ∙ find-none xs never
