-- The first wrong place that a search finds is the first wrong place, and the computed fault is the fault.
use Rattle.std.proofs.Common.{◌≡◌, ◌≢◌, ℕ, ◌+◌, ◌%◌, ◌<◌, ◌≤◌, ◌⊎◌, inl, inr, Bool, true, false, not, cond, zero, suc, List, length, Option, None, Some, MatchOption, refl, ap, arith, subst}
use Rattle.std.specs.Prelude.{find}
use Rattle.std.specs.List.{range_with_len}
use Rattle.std.specs.Option.{option_map}
use Rattle.std.proofs.lemmas.Bool.{cases_lt, cases_eq}
use Rattle.std.proofs.lemmas.Bool.Decides.{nat_tests}
use Rattle.lei_code.specs.declared.fault.LeiFault.{LeiFault}
use Rattle.lei_code.specs.declared.fault.LeiFault.TheVariants.{Length, Character, CheckDigits}
use Rattle.lei_code.specs.Number.{number}
use Rattle.lei_code.specs.Code.{character, may_be_at, IsWellFormed, IsValid}
use Rattle.lei_code.specs.Fault.{IsFirstWrong, IsCharacterFault, IsFault, first_wrong, character_fault, fault_of}

-- what a search through n numbers starting with a finds: none, or the first
abbrev IsFirst : (ℕ → Bool) → ℕ → ℕ → Option ℕ → Type 0
IsFirst test a n found = MatchOption found
    ((k : ℕ) → a ≤ k → k < a + n → test k ≡ false)
    (λ k. (a ≤ k) × (k < a + n) × (test k ≡ true) × ((j : ℕ) → a ≤ j → j < k → test j ≡ false))

-- the number a precedes those starting with a + 1
below_from : (test : ℕ → Bool) (a m : ℕ) → test a ≡ false → ((k : ℕ) → a + 1 ≤ k → k < m → test k ≡ false) → (k : ℕ) → a ≤ k → k < m → test k ≡ false
below_from test a m here above k low high =
    elim (cases_lt a k) [ inl h ↦ above k (omega arith) high | inr h ↦ (let e : k ≡ a = omega arith in rw e here) ]

first_from : (test : ℕ → Bool) (a n : ℕ) (found : Option ℕ) → test a ≡ false → IsFirst test (a + 1) n found → IsFirst test a (suc n) found
first_from test a n None here rest = below_from test a (a + suc n) here (λ k low high. rest k low (omega arith))
first_from test a n (Some k) here rest = (omega arith, omega arith, rest.2, below_from test a k here rest.3)

find-range : (test : ℕ → Bool) (a n : ℕ) → IsFirst test a n (find test (range_with_len a n))
find-range test a zero = λ k low high. absurd (omega arith)
find-range test a (suc n) = step test a n (test a) refl (find-range test (a + 1) n) where
  step : (test : ℕ → Bool) (a n : ℕ) (b : Bool) → test a ≡ b → IsFirst test (a + 1) n (find test (range_with_len (a + 1) n)) → IsFirst test a (suc n) (cond b (Some a) (find test (range_with_len (a + 1) n)))
  step test a n true e rest = (omega arith, omega arith, e, λ j low high. absurd (omega arith))
  step test a n false e rest = first_from test a n _ e rest

true_from-not : (b : Bool) → not b ≡ false → b ≡ true
true_from-not true e = refl
true_from-not false e = cc

false_from-not : (b : Bool) → not b ≡ true → b ≡ true → ⊥
false_from-not true e h = cc
false_from-not false e h = cc

-- what the search for a wrong place reports
pub first_wrong-tells : (text : List ℕ) → MatchOption (first_wrong text) (IsWellFormed text) (IsFirstWrong text)
unfolding first_wrong
first_wrong-tells text = told text _ (find-range _ 1 (length text)) where
  told : (text : List ℕ) (found : Option ℕ) → IsFirst (λ place. not (may_be_at place (character text place))) 1 (length text) found → MatchOption found (IsWellFormed text) (IsFirstWrong text)
  told text None none = record { each = λ place low high. true_from-not _ (none place low (omega arith)) }
  told text (Some place) (low, high, wrong, before) = record {
    counted = low;
    within = omega arith;
    wrong = false_from-not _ wrong;
    before = λ q low' high'. true_from-not _ (before q low' high');
  }

-- a text has one first wrong place
IsFirstWrong-unique : (text : List ℕ) (p q : ℕ) → IsFirstWrong text p → IsFirstWrong text q → p ≡ q
IsFirstWrong-unique text p q at_p at_q =
    elim (cases_lt p q) [
      | inl h ↦ absurd (at_p.wrong (at_q.before p at_p.counted h))
      | inr h ↦ elim (cases_lt q p) [ inl k ↦ absurd (at_q.wrong (at_p.before q at_q.counted k)) | inr k ↦ omega arith ]
    ]

well_formed-no_wrong : (text : List ℕ) (p : ℕ) → IsWellFormed text → IsFirstWrong text p → ⊥
well_formed-no_wrong text p all at_p = at_p.wrong (all.each p at_p.counted at_p.within)

pub first_wrong-found : (text : List ℕ) (place : ℕ) → IsFirstWrong text place → first_wrong text ≡ Some place
first_wrong-found text place at_place = found text place at_place _ (first_wrong-tells text) where
  found : (text : List ℕ) (place : ℕ) → IsFirstWrong text place → (o : Option ℕ) → MatchOption o (IsWellFormed text) (IsFirstWrong text) → o ≡ Some place
  found text place at_place None all = absurd (well_formed-no_wrong text place all at_place)
  found text place at_place (Some other) at_other = ap Some (IsFirstWrong-unique text other place at_other at_place)

pub first_wrong-none : (text : List ℕ) → IsWellFormed text → first_wrong text ≡ None
first_wrong-none text all = none text all _ (first_wrong-tells text) where
  none : (text : List ℕ) → IsWellFormed text → (o : Option ℕ) → MatchOption o (IsWellFormed text) (IsFirstWrong text) → o ≡ None
  none text all None _ = refl
  none text all (Some other) at_other = absurd (well_formed-no_wrong text other all at_other)

pub fault_of-IsFault : (text : List ℕ) (fault : LeiFault) → IsFault text fault → fault_of text ≡ Some fault
unfolding fault_of
fault_of-IsFault text Length wrong = grind (arith, nat_tests)
fault_of-IsFault text (Character place) (len, wrong) = rw (first_wrong-found text place wrong) (grind (arith, nat_tests))
fault_of-IsFault text CheckDigits (len, all, wrong) = rw (first_wrong-none text all) (grind (arith, nat_tests))

pub fault_of-IsValid : (text : List ℕ) → IsValid text → fault_of text ≡ None
unfolding fault_of
fault_of-IsValid text valid = rw (first_wrong-none text valid.characters) (let n = valid.len in let r = valid.check in grind (arith, nat_tests))

-- a text is a code, or it has a fault
pub valid_or_fault : (text : List ℕ) → IsValid text ⊎ ((fault : LeiFault) × IsFault text fault)
valid_or_fault text =
    elim (cases_eq (length text) 20) [
      | inr short ↦ inr (Length, short)
      | inl len ↦ by_place text len _ (first_wrong-tells text)
    ] where
      by_place : (text : List ℕ) → length text ≡ 20 → (o : Option ℕ) → MatchOption o (IsWellFormed text) (IsFirstWrong text) → IsValid text ⊎ ((fault : LeiFault) × IsFault text fault)
      by_place text len (Some place) wrong = inr (Character place, (len, wrong))
      by_place text len None all =
          elim (cases_eq (number text % 97) 1) [
            | inl one ↦ inl (record { len = len; characters = all; check = one })
            | inr other ↦ inr (CheckDigits, (len, all, other))
          ]

-- the computed fault is the fault
pub IsFault-from_fault_of : (text : List ℕ) (fault : LeiFault) → fault_of text ≡ Some fault → IsFault text fault
IsFault-from_fault_of text fault e =
    elim (valid_or_fault text) [
      | inl valid ↦ (let none = fault_of-IsValid text valid in cc)
      | inr w ↦ (let same = fault_of-IsFault text w.0 w.1 in let eq : w.0 ≡ fault = cc in subst (IsFault text) eq w.1)
    ]

pub IsValid-from_fault_of : (text : List ℕ) → fault_of text ≡ None → IsValid text
IsValid-from_fault_of text e =
    elim (valid_or_fault text) [
      | inl valid ↦ valid
      | inr w ↦ (let some = fault_of-IsFault text w.0 w.1 in cc)
    ]

-- the fault in each case, as a reader finds it
pub fault_of-length : (text : List ℕ) → length text ≢ 20 → fault_of text ≡ Some Length
fault_of-length text = fault_of-IsFault text Length

pub fault_of-check : (text : List ℕ) → length text ≡ 20 → IsWellFormed text → number text % 97 ≢ 1 → fault_of text ≡ Some CheckDigits
fault_of-check text len all other = fault_of-IsFault text CheckDigits (len, all, other)

-- the fault of a text of 20 characters whose first wrong character is found
pub fault_of-character : (text : List ℕ) (fault : LeiFault) → length text ≡ 20 → IsCharacterFault text fault → fault_of text ≡ Some fault
fault_of-character text Length len none = absurd none
fault_of-character text (Character place) len wrong = fault_of-IsFault text (Character place) (len, wrong)
fault_of-character text CheckDigits len none = absurd none

-- the rules of `Lei::read`
pub ruleset faults_of_codes = (fault_of-length, fault_of-check, fault_of-IsValid, fault_of-character)

-- the computed fault of the first wrong character
pub character_fault-at : (text : List ℕ) (fault : LeiFault) → IsCharacterFault text fault → character_fault text ≡ Some fault
character_fault-at text Length none = absurd none
character_fault-at text (Character place) wrong = rw (first_wrong-found text place wrong)
character_fault-at text CheckDigits none = absurd none

-- and conversely
pub IsCharacterFault-from_character_fault : (text : List ℕ) (fault : LeiFault) → character_fault text ≡ Some fault → IsCharacterFault text fault
IsCharacterFault-from_character_fault text fault e = from_found text fault _ (first_wrong-tells text) e where
  from_found : (text : List ℕ) (fault : LeiFault) (o : Option ℕ) → MatchOption o (IsWellFormed text) (IsFirstWrong text) → option_map Character o ≡ Some fault → IsCharacterFault text fault
  from_found text fault None all e = cc
  from_found text fault (Some place) wrong e = let eq : Character place ≡ fault = cc in subst (IsCharacterFault text) eq wrong

pub IsWellFormed-from_character_fault : (text : List ℕ) → character_fault text ≡ None → IsWellFormed text
IsWellFormed-from_character_fault text e = from_none text _ (first_wrong-tells text) e where
  from_none : (text : List ℕ) (o : Option ℕ) → MatchOption o (IsWellFormed text) (IsFirstWrong text) → option_map Character o ≡ None → IsWellFormed text
  from_none text None all e = all
  from_none text (Some place) wrong e = cc

pub character_fault-none : (text : List ℕ) → IsWellFormed text → character_fault text ≡ None
character_fault-none text all = rw (first_wrong-none text all)
