-- A text with the shape of an LEI is an LEI if its check digits are right.
use Rattle.std.proofs.Common.{◌≡◌, ℕ, ◌+◌, ◌-◌, ◌%◌, ◌<◌, ◌≤◌, inl, inr, Bool, true, false, not, ◌&&◌, List, take, drop, length, get_or, refl, sym, ap, ◌∙◌, arith}
use Rattle.std.specs.Char.{is_ascii_digit}
use Rattle.std.specs.List.{list_all}
use Rattle.std.specs.Prelude.{IsTrue, ◌==◌, Result, Ok, Err, IsOk, is_err}
use Rattle.std.proofs.lemmas.Bool.{and_parts, cases_lt, eqb-true, false≢true}
use Rattle.std.proofs.lemmas.Bool.Decides.{nat_tests}
use Rattle.std.proofs.lemmas.List.{get_or-take, get_or-drop, length-take, length-drop}
use Rattle.std.proofs.lemmas.List.Folds.{list_all_at}
use Rattle.lei_code.specs.Number.{number}
use Rattle.lei_code.specs.Code.{character, may_be_at, IsWellFormed, IsValid}
use Rattle.lei_shapes.specs.Shape.{is_code, is_capital_or_digit}

-- if all pass, the one at an index passes
pub passes_at : {X : Type 0} (p : X → Bool) (xs : List X) (i : ℕ) (d : X) → list_all p xs ≡ true → i < length xs → p (get_or xs i d) ≡ true
passes_at p xs i d all within =
    elim (p (get_or xs i d)) as (λ b. p (get_or xs i d) ≡ b → b ≡ true) [
      | true ↦ λ is. refl
      | false ↦ λ is. sym (list_all_at p xs i d within is) ∙ all
    ] refl

letter_or_digit : (place c : ℕ) → place ≤ 18 → is_capital_or_digit c ≡ true → IsTrue (may_be_at place c)
letter_or_digit place c bound is = grind (arith, nat_tests)

digit : (place c : ℕ) → is_ascii_digit c ≡ true → IsTrue (may_be_at place c)
digit place c is = grind (arith, nat_tests)

shape_parts : (text : List ℕ) → is_code text ≡ true → (length text ≡ 20) × (list_all is_capital_or_digit (take 18 text) ≡ true) × (list_all is_ascii_digit (drop 18 text) ≡ true)
shape_parts text is =
    let outer = and_parts ((length text == 20) && list_all is_capital_or_digit (take 18 text)) (list_all is_ascii_digit (drop 18 text)) is in
    let inner = and_parts (length text == 20) (list_all is_capital_or_digit (take 18 text)) outer.0 in
    (eqb-true (length text) 20 inner.0, inner.1, outer.1)

well_formed : (text : List ℕ) → is_code text ≡ true → IsWellFormed text
well_formed text is = record {
  each = λ place low high.
      let parts = shape_parts text is in
      let bound : place ≤ 20 = omega (arith, parts.0, high) in
      let short : 18 ≤ length text = omega (arith, parts.0) in
      elim (cases_lt 18 place) [
        | inl h ↦ (let at : 18 + (place - 19) ≡ place - 1 = omega arith in
            let within : place - 19 < length (drop 18 text) = omega (arith, length-drop 18 text, parts.0) in
            let here = passes_at is_ascii_digit (drop 18 text) (place - 19) 0 parts.2 within in
            digit place (character text place) (ap is_ascii_digit (ap (λ k. get_or text k 0) (sym at) ∙ sym (get_or-drop 18 text (place - 19) 0)) ∙ here))
        | inr h ↦ (let index : place - 1 < 18 = omega arith in
            let within : place - 1 < length (take 18 text) = omega (arith, length-take 18 text, parts.0) in
            let here = passes_at is_capital_or_digit (take 18 text) (place - 1) 0 parts.1 within in
            letter_or_digit place (character text place) h (ap is_capital_or_digit (sym (get_or-take 18 text (place - 1) 0 index)) ∙ here))
      ];
}

pub IsValid-from_shape : (text : List ℕ) → is_code text ≡ true → (number text % 97 == 1) ≡ true → IsValid text
IsValid-from_shape text shape check = record {
  len = (shape_parts text shape).0;
  characters = well_formed text shape;
  check = eqb-true (number text % 97) 1 check;
}

-- what reading an LEI says about the check digits, if the shape is right
pub remainder_told : {A E : Type 0} (r : Result A E) (text : List ℕ) → is_code text ≡ true → (IsOk r → IsValid text) → (IsValid text → IsOk r) → is_err r ≡ is_code text && not (number text % 97 == 1)
remainder_told (Ok a) text shape valid back = rw (shape, ap (λ n. n == 1) (valid refl).check) refl
remainder_told (Err e) text shape valid back =
    elim (number text % 97 == 1) as (λ b. (number text % 97 == 1) ≡ b → true ≡ is_code text && not b) [
      | true ↦ λ is. absurd (false≢true (back (IsValid-from_shape text shape is)))
      | false ↦ λ is. rw shape refl
    ] refl
