-- The first failing check of several, if the first of them fails or passes.
use Rattle.std.proofs.Common.{◌≡◌, [], ◌∷◌, true, false, Some, None, refl}
use Rattle.lei_records.specs.Checks.{Finding, first_failing}

pub one-fails : (finding : Finding) → finding.fails ≡ true → Some (record { number = finding.number; detail = finding.detail }) ≡ first_failing (finding ∷ [])
one-fails finding fails = rw fails refl

pub one-passes : (finding : Finding) → finding.fails ≡ false → None ≡ first_failing (finding ∷ [])
one-passes finding passes = rw passes refl

pub first-passes : (first second : Finding) → first.fails ≡ false → first_failing (second ∷ []) ≡ first_failing (first ∷ second ∷ [])
first-passes first second passes = rw passes refl
