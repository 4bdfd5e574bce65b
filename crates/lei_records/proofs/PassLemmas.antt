-- Checks one after another: the first of two lists that fails, and that each passes if none fails.
use Rattle.std.specs.Prelude.{◌≡◌, List, [], ◌∷◌, ◌++◌, true, false, cond, Some, None, ⊤}
use Rattle.std.specs.Option.{option_or}
use Rattle.std.proofs.Common.{refl}
use Rattle.lei_records.specs.Checks.{Finding, first_failing}

pub first_failing-append : (before behind : List Finding) → first_failing (before ++ behind) ≡ option_or (first_failing before) (first_failing behind)
first_failing-append [] behind = refl
first_failing-append (finding ∷ before) behind =
    elim finding.fails as (λ b. cond b (Some (record { number = finding.number; detail = finding.detail })) (first_failing (before ++ behind))
    ≡ option_or (cond b (Some (record { number = finding.number; detail = finding.detail })) (first_failing before)) (first_failing behind)) [
      | true ↦ refl
      | false ↦ first_failing-append before behind
    ]

-- The first of some checks passes, and so do the others.
pub record AllOf (first_finding : Finding) (rest : Type 0) : Type 0 where
  pub first : first_finding.fails ≡ false
  pub others : rest

abbrev pub AllPass : List Finding → Type 0
AllPass [] = ⊤
AllPass (finding ∷ findings) = AllOf finding (AllPass findings)

pub all_pass : (findings : List Finding) → first_failing findings ≡ None → AllPass findings
all_pass [] passes = tt
all_pass (finding ∷ findings) passes =
    elim finding.fails as (λ b. finding.fails ≡ b
    → cond b (Some (record { number = finding.number; detail = finding.detail })) (first_failing findings) ≡ None → AllOf finding (AllPass findings)) [
      | true ↦ λ t is. cc
      | false ↦ λ t is. record { first = t; others = all_pass findings is }
    ] refl passes

-- if all pass, those after the first ones do
pub pass_behind : (first behind : List Finding) → AllPass (first ++ behind) → AllPass behind
pass_behind [] behind pass = pass
pass_behind (finding ∷ first) behind pass = pass_behind first behind pass.others
