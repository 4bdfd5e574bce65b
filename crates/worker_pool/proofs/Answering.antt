-- Results that are all `Ok`, and the values in them.
use Rattle.std.proofs.Common.{◌≡◌, List, [], ◌∷◌, map, subst, refl, Ok, Bor}
use Rattle.std.specs.Prelude.{IfOk, MatchResult, Result, Err}
use Rattle.std.specs.Fn.{FnReturnsAt, Shared}
use Rattle.std.specs.List.{AllZip}

-- what a case analysis says of an Ok, as a fact about the Ok alone
pub of_ok : {V E : Type 0} (r : Result V E) (P : V → Type 0) (Q : E → Type 0) (S : V → Type 0) → MatchResult r P Q
    → ((v : V) → P v → S v) → IfOk r S
of_ok (Ok v) P Q S h f = f v h
of_ok (Err e) P Q S h f = tt

module _ {F T U E : Type 0} (g : Shared F (Bor T × Unit {0}) (Result U E)) (f : F) where
  -- if each call at a reference to a member returned an Ok, the members have the values in these
  each_returns : (zs : List (Bor T)) (us : List U) → AllZip (λ z r. g.post f (z, tt) r) zs (map Ok us)
      → AllZip (λ x u. FnReturnsAt g f x (Ok u)) (map (λ z. z.now) zs) us
  each_returns [] [] h = tt
  each_returns [] (u ∷ us) h = absurd h
  each_returns (z ∷ zs) [] h = absurd h
  each_returns (z ∷ zs) (u ∷ us) h = (record { shown = z; shows = refl; says = record { met = h.0 } }, each_returns zs us h.1)

  -- the same for a list of members to which the references point, and for results equal to these
  pub all_return : (called : F) → called ≡ f → (xs : List T) (zs : List (Bor T)) (rs : List (Result U E)) (us : List U)
      → map (λ z. z.now) zs ≡ xs → rs ≡ map Ok us → AllZip (λ z r. g.post called (z, tt) r) zs rs
      → AllZip (λ x u. FnReturnsAt g f x (Ok u)) xs us
  all_return called is xs zs rs us shown same h =
      subst (λ l. AllZip (λ x u. FnReturnsAt g f x (Ok u)) l us) shown
      (each_returns zs us (subst (λ l. AllZip (λ z r. g.post f (z, tt) r) zs l) same
      (subst (λ it. AllZip (λ z r. g.post it (z, tt) r) zs rs) is h)))
