-- Ways that end: none comes back, and they still end after one code names other next ones.
use Rattle.std.specs.Prelude.{◌≡◌, ◌≢◌, ℕ, zero, suc, true, false, List}
use Rattle.std.specs.List.{Contains}
use Rattle.std.specs.Str.{bytes_eq}
use Rattle.std.proofs.Common.{refl, sym, subst, ◌∙◌}
use Rattle.std.proofs.lemmas.Slice.Eq.{bytes_eq-Decides}
use mathlib.Core.Bool.{true≢false}
use Rattle.successor_rules.specs.Chains.{AllEnd, EndsClear, EndsIn, IsTurned, LeadsInSteps, Nexts}

-- ---- no way comes back

-- a way continues by one more step
one_more : (n : ℕ) (nexts : Nexts) (from to next : List ℕ) → LeadsInSteps n nexts from to → Contains (nexts to) next → LeadsInSteps (suc n) nexts from next
one_more zero nexts from to next is at = (next, subst (λ lei. Contains (nexts lei) next) (sym is) at, refl)
one_more (suc n) nexts from to next way at = (way.0, way.1, one_more n nexts way.0 to next way.2 at)

-- a way that comes back also leads from its second member to that member
comes_back : (m n : ℕ) (nexts : Nexts) (lei : List ℕ) → EndsIn m nexts lei → LeadsInSteps (suc n) nexts lei lei → ⊥
comes_back zero n nexts lei ends way = ends
comes_back (suc m) n nexts lei ends way =
    comes_back m n nexts way.0 (ends way.0 way.1) (one_more n nexts way.0 lei way.0 way.2 way.1)

pub never_returns : (nexts : Nexts) (n : ℕ) (lei : List ℕ) → AllEnd nexts → LeadsInSteps (suc n) nexts lei lei → ⊥
never_returns nexts n lei all way = let ends = all lei in comes_back ends.0 n nexts lei ends.1 way

-- ---- one code names other next ones

-- what ends before this many codes ends before one more
one_later : (n : ℕ) (nexts : Nexts) (lei : List ℕ) → EndsIn n nexts lei → EndsIn (suc n) nexts lei
one_later zero nexts lei ends = absurd ends
one_later (suc n) nexts lei ends = λ next at. one_later n nexts next (ends next at)

-- this many codes more
more : ℕ → ℕ → ℕ
more zero n = n
more (suc m) n = suc (more m n)

later : (m n : ℕ) (nexts : Nexts) (lei : List ℕ) → EndsIn n nexts lei → EndsIn (more m n) nexts lei
unfolding more
later zero n nexts lei ends = ends
later (suc m) n nexts lei ends = one_later (more m n) nexts lei (later m n nexts lei ends)

-- a way that doesn't meet the changed code continues as before
still_clear : (n : ℕ) (before after : Nexts) (start : List ℕ) (targets : List (List ℕ)) (lei : List ℕ) → IsTurned before after start targets
    → EndsClear n before start lei → EndsIn n after lei
still_clear zero before after start targets lei turned clear = clear
still_clear (suc n) before after start targets lei turned clear = λ next at.
    still_clear n before after start targets next turned
    (clear.1 next (subst (λ nexts. Contains nexts next) (turned.elsewhere lei clear.0) at))

-- each other way meets the code at most once, and then ends with a way from its targets
still_ends : (m n : ℕ) (before after : Nexts) (start : List ℕ) (targets : List (List ℕ)) (lei : List ℕ) → IsTurned before after start targets
    → ((target : List ℕ) → Contains targets target → EndsClear n before start target)
    → EndsIn m before lei → EndsIn (more m (suc n)) after lei
unfolding more
still_ends zero n before after start targets lei turned clear ends = absurd ends
still_ends (suc m) n before after start targets lei turned clear ends =
    elim (bytes_eq lei start) as (λ b. bytes_eq lei start ≡ b → EndsIn (suc (more m (suc n))) after lei) [
      | true ↦ λ t. λ next at.
          let here : after lei ≡ targets = subst (λ code. after code ≡ targets) (sym ((bytes_eq-Decides lei start).0 t)) turned.here in
          let among : Contains targets next = subst (λ nexts. Contains nexts next) here at in
          later m (suc n) after next (one_later n after next (still_clear n before after start targets next turned (clear next among)))
      | false ↦ λ f. λ next at.
          let other : lei ≢ start = λ same. true≢false (sym ((bytes_eq-Decides lei start).1 same) ∙ f) in
          let among : Contains (before lei) next = subst (λ nexts. Contains nexts next) (turned.elsewhere lei other) at in
          still_ends m n before after start targets next turned clear (ends next among)
    ] refl

pub keeps_ends : (before after : Nexts) (start : List ℕ) (targets : List (List ℕ)) (n : ℕ) → AllEnd before → IsTurned before after start targets
    → ((target : List ℕ) → Contains targets target → EndsClear n before start target) → AllEnd after
keeps_ends before after start targets n all turned clear = λ lei.
    let ends = all lei in
    (more ends.0 (suc n), still_ends ends.0 n before after start targets lei turned clear ends.1)
