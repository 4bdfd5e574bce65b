-- Answers have no floats, so the texts of their compact forms are specified. The list of verdicts grows by one text at
-- a time.
use Rattle.std.proofs.Common.{◌≡◌, ℕ, List, [], ◌∷◌, ◌++◌, false, refl, ap, ◌∙◌}
use Rattle.serde_json.specs.Data.{string, item, no_items}
use Rattle.serde_json.specs.Written.{items_have_float}
use Rattle.serde_json.specs.View.{view, items_view}
use Rattle.serde_json.specs.declared.value.Value.{Value}
use Rattle.answer_texts.specs.Answers.{strings}

pub no_float_in_strings : (texts : List (List ℕ)) → items_have_float (strings texts) ≡ false
no_float_in_strings [] = refl
no_float_in_strings (text ∷ texts) = no_float_in_strings texts

pub strings-push : (values : List Value) (value : Value) (texts : List (List ℕ)) (text : List ℕ) → view value ≡ string text → items_view values ≡ strings texts
    → items_view (values ++ value ∷ []) ≡ strings (texts ++ text ∷ [])
strings-push [] value [] text is same = ap (λ d. item d no_items) is
strings-push [] value (first ∷ texts) text is same = cc
strings-push (v ∷ values) value [] text is same = cc
strings-push (v ∷ values) value (first ∷ texts) text is same =
    let heads : view v ≡ string first = cc in
    let tails : items_view values ≡ strings texts = cc in
    ap (λ d. item d (items_view (values ++ value ∷ []))) heads ∙ ap (item (string first)) (strings-push values value texts text is tails)
