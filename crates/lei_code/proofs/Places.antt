-- The characters at the places of a text.
use Rattle.std.proofs.Common.{◌≡◌, ℕ, ◌+◌, ◌-◌, ◌<◌, ◌≤◌, inl, inr, List, length, get_or, arith}
use Rattle.std.specs.Prelude.{IsTrue}
use Rattle.std.proofs.lemmas.Bool.{cases_lt}
use Rattle.std.proofs.lemmas.Bool.Decides.{nat_tests}
use Rattle.std.specs.Str.{IsAscii, IsUtf8}
use Rattle.std.proofs.lemmas.List.{get_or_past}
use Rattle.std.proofs.lemmas.Str.{IsUtf8-from_ascii}
use Rattle.lei_code.specs.Code.{character, may_be_at, IsWellFormed, IsValid}

-- the first n places have characters that are allowed there
abbrev pub IsWellFormedTo : List ℕ → ℕ → Type 0
IsWellFormedTo text n = (place : ℕ) → 1 ≤ place → place ≤ n → IsTrue (may_be_at place (character text place))

pub may_be_at-digit : (place c : ℕ) → 48 ≤ c → c ≤ 57 → IsTrue (may_be_at place c)
may_be_at-digit place c low high = grind (arith, nat_tests)

pub may_be_at-letter : (place c : ℕ) → place ≤ 18 → 65 ≤ c → c ≤ 90 → IsTrue (may_be_at place c)
may_be_at-letter place c first low high = grind (arith, nat_tests)

-- one place more
pub well_formed_more : (text : List ℕ) (i : ℕ) → IsWellFormedTo text i → IsTrue (may_be_at (i + 1) (get_or text i 0)) → IsWellFormedTo text (i + 1)
well_formed_more text i before here place low high =
    elim (cases_lt i place) [
      | inl h ↦ (let e : place ≡ i + 1 = omega arith in
          let at : place - 1 ≡ i = omega arith in
          rw (at, e) here)
      | inr h ↦ before place low h
    ]

below_ascii : (place c : ℕ) → IsTrue (may_be_at place c) → c < 128
below_ascii place c stands = grind (arith, nat_tests)

-- a code is ASCII
pub code_is_ascii : (text : List ℕ) → IsWellFormed text → IsAscii text
code_is_ascii text all i =
    elim (cases_lt i (length text)) [
      | inl h ↦ (let at : (i + 1) - 1 ≡ i = omega arith in let stands = all.each (i + 1) (omega arith) (omega arith) in below_ascii (i + 1) _ (rw at at stands))
      | inr h ↦ rw (get_or_past text i 0 h) (omega arith)
    ]

pub code_is_utf8 : (text : List ℕ) → IsValid text → IsUtf8 text
code_is_utf8 text valid = IsUtf8-from_ascii text (code_is_ascii text valid.characters)
