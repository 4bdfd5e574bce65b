-- Numbers in 18 digits.
use Rattle.std.proofs.Common.{◌≡◌, ℕ, ◌+◌, ◌-◌, ◌%◌, ◌<◌, ◌≤◌, ◌^◌, List, [], ◌++◌, length, true, false, refl, get_or, take, drop, replicate, ap, sym, ◌∙◌, arith, rules}
use Rattle.std.specs.Prelude.{decimal, All, None, if◌then◌else◌, ◌==◌}
use Rattle.std.proofs.lemmas.Fmt.{decimal_by_steps}
use Rattle.std.proofs.lemmas.List.{take-append-drop, take-replicate}
use Rattle.std.proofs.lemmas.List.Elements.{All-append, All-get_or, All-nil, All-push, All-replicate}
use Rattle.lei_code.specs.Code.{IsWellFormed}
use Rattle.lei_code.specs.Fault.{fault_of, first_wrong}
use Rattle.lei_code.specs.Number.{number}
use Rattle.lei_code.proofs.Places.{may_be_at-digit}
use Rattle.register_demo.specs.Codes.{first_issuer, in_18_digits, manager, second_issuer}

abbrev IsDigit : ℕ → Type 0
IsDigit c = (48 ≤ c) × (c ≤ 57)

all-digits : (n : ℕ) → n < 2 ^ 64 → All IsDigit (decimal n)
all-digits = decimal_by_steps (λ _ text. All IsDigit text)
    (λ n small. All-push IsDigit [] (48 + n) (All-nil IsDigit) (omega arith, omega arith))
    (λ n text more all. All-push IsDigit text (48 + n % 10) all (omega arith, omega arith))

-- 18 zeros, the last of which were overwritten by the digits
pub filled : (i at : ℕ) (text : List ℕ) → at + length (decimal i) ≡ 18 → drop at text ≡ decimal i ++ drop 18 (replicate 18 48)
    → take at text ≡ take at (replicate 18 48) → text ≡ in_18_digits i
filled i at text ends behind before =
    let is : at ≡ 18 - length (decimal i) = omega arith in
    let zeros = take-replicate at 18 48 (omega arith) in
    sym (take-append-drop at text) ∙ ap (λ front. front ++ drop at text) (before ∙ zeros) ∙ ap (λ rest. replicate at 48 ++ rest) (behind ∙ search rules)
    ∙ ap (λ n. replicate n 48 ++ decimal i) is

-- each of its characters is allowed at its place
pub well-formed : (i : ℕ) → i < 2 ^ 32 → IsWellFormed (in_18_digits i)
well-formed i small =
    let all : All IsDigit (in_18_digits i) = All-append IsDigit (replicate (18 - length (decimal i)) 48) (decimal i)
    (All-replicate IsDigit (18 - length (decimal i)) 48 (omega arith, omega arith)) (all-digits i (omega arith)) in
    record {
      each = λ place low high.
          let digit = All-get_or IsDigit (in_18_digits i) (place - 1) 0 (omega arith) all in
          may_be_at-digit place (get_or (in_18_digits i) (place - 1) 0) digit.0 digit.1;
    }

-- ---- the issuers

first-is : fault_of first_issuer ≡ None
unfolding fault_of first_wrong number
first-is = refl

second-is : fault_of second_issuer ≡ None
unfolding fault_of first_wrong number
second-is = refl

-- both are LEIs
pub manager-is : (block : ℕ) → fault_of (manager block) ≡ None
manager-is block = elim (block % 2 == 1) as (λ odd. fault_of (if odd then first_issuer else second_issuer) ≡ None) [ true ↦ first-is | false ↦ second-is ]
