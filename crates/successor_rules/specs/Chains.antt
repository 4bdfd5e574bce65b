-- Chains: the ways from LEI to LEI, if each names a list of next ones.
use Rattle.std.specs.Prelude.{◌≡◌, ◌≢◌, ℕ, zero, suc, List}
use Rattle.std.specs.List.{Contains}
use Rattle.lei_code.specs.Texts.{Lei}

-- What each LEI names next.
abbrev pub Nexts : Type 0
Nexts = Lei → List Lei

-- Each way from this LEI ends before this many were met.
abbrev pub EndsIn : ℕ → Nexts → Lei → Type 0
EndsIn zero nexts lei = ⊥
EndsIn (suc n) nexts lei = (next : Lei) → Contains (nexts lei) next → EndsIn n nexts next

-- Each way from each LEI ends.
abbrev pub AllEnd : Nexts → Type 0
AllEnd nexts = (lei : Lei) → (n : ℕ) × EndsIn n nexts lei

-- A way with this many steps leads from one LEI to the other.
abbrev pub LeadsInSteps : ℕ → Nexts → Lei → Lei → Type 0
LeadsInSteps zero nexts from to = from ≡ to
LeadsInSteps (suc n) nexts from to = (next : Lei) × Contains (nexts from) next × LeadsInSteps n nexts next to

-- Each way from an LEI ends before this many were met, and none of them is the start.
abbrev pub EndsClear : ℕ → Nexts → Lei → Lei → Type 0
EndsClear zero nexts start lei = ⊥
EndsClear (suc n) nexts start lei = (lei ≢ start)
    × ((next : Lei) → Contains (nexts lei) next → EndsClear n nexts start next)

-- One LEI names these next ones afterwards, and every other LEI names the same as before.
pub record IsTurned (before after : Nexts) (start : Lei) (targets : List Lei) : Type 0 where
  pub here : after start ≡ targets
  pub elsewhere : (lei : Lei) → lei ≢ start → after lei ≡ before lei
