-- The text of a record's successors: what its shape and its check digits say about the LEIs in it.
use Rattle.std.proofs.Common.{◌≡◌, ◌≤◌, ◌<◌, ◌%◌, ℕ, zero, suc, List, [], ◌∷◌, Bool, true, false, not, ◌&&◌, length, get_or, refl, sym, ap, subst, ◌∙◌, arith}
use Rattle.std.specs.Prelude.{◌==◌}
use Rattle.std.specs.Int.{is_in_range}
use Rattle.std.specs.List.{All, list_all, list_any}
use Rattle.std.proofs.lemmas.Bool.{and_parts, or_parts}
use Rattle.lei_code.specs.Code.{IsValid}
use Rattle.lei_code.specs.Number.{number}
use Rattle.lei_shapes.specs.Shape.{are_different, between_spaces, fits_shape, is_code, is_codes}
use Rattle.lei_shapes.proofs.CodeLemmas.{one_code}
use Rattle.lei_records.specs.declared.rules.Rules.{Rules}
use Rattle.item_fields.specs.Fields.{successors_shape}
use Rattle.item_fields.specs.Items.{has_other_remainder}
use Rattle.lei_records.specs.Spelled.{AreCodes}
use Rattle.item_fields.proofs.Codes.{IsValid-from_shape, passes_at}

-- if none passes, the one at an index doesn't
none_at : {X : Type 0} (p : X → Bool) (xs : List X) (k : ℕ) (d : X) → list_any p xs ≡ false → k < length xs → p (get_or xs k d) ≡ false
none_at p [] k d none within = absurd (omega (arith, within))
none_at p (x ∷ xs) zero d none within = (or_parts (p x) (list_any p xs) none).0
none_at p (x ∷ xs) (suc k) d none within = none_at p xs k d (or_parts (p x) (list_any p xs) none).1 (omega (arith, within))

right : (shape check : Bool) → shape ≡ true → shape && not check ≡ false → check ≡ true
right true true fits passes = refl
right true false fits passes = cc
right false check fits passes = cc

-- texts with the shape of an LEI, none of them with wrong check digits, are LEIs
valid : (texts : List (List ℕ)) → list_all is_code texts ≡ true → list_any has_other_remainder texts ≡ false → All IsValid texts
valid texts shaped digits k d within =
    let text = get_or texts k d in
    let shape = passes_at is_code texts k d shaped within in
    IsValid-from_shape text shape (right (is_code text) (number text % 97 == 1) shape (none_at has_other_remainder texts k d digits within))

few : (n : ℕ) → is_in_range 1 5 n ≡ true → n ≤ 5
few n is = grind (arith, is)

one : (text : List ℕ) → is_code text ≡ true → list_any has_other_remainder (between_spaces text) ≡ false → AreCodes text
one text is digits =
    let alone = one_code text is in
    record {
      few = subst (λ (texts : List (List ℕ)). length texts ≤ 5) (sym alone) (omega arith);
      valid = valid (between_spaces text) (ap (list_all is_code) alone ∙ rw is refl) digits;
      different = ap are_different alone;
    }

several : (text : List ℕ) → is_codes text ≡ true → list_any has_other_remainder (between_spaces text) ≡ false → AreCodes text
several text is digits =
    let texts = between_spaces text in
    let outer = and_parts (is_in_range 1 5 (length texts) && list_all is_code texts) (are_different texts) is in
    let inner = and_parts (is_in_range 1 5 (length texts)) (list_all is_code texts) outer.0 in
    record {
      few = few (length texts) inner.0;
      valid = valid texts inner.1 digits;
      different = outer.1;
    }

-- a text with the shape of successors, without wrong check digits, is LEIs
pub AreCodes-from_shape : (rules : Rules) (text : List ℕ) → fits_shape (successors_shape rules) text ≡ true → list_any has_other_remainder (between_spaces text) ≡ false → AreCodes text
AreCodes-from_shape Rules.First text = one text
AreCodes-from_shape Rules.Second text = several text
AreCodes-from_shape Rules.Third text = several text
