-- The values of names, one after another.
use Rattle.std.proofs.Common.{◌≡◌, List, [], ◌∷◌, ◌++◌, false, refl, ap, ◌∙◌}
use Rattle.serde_json.specs.Data.{item, no_items}
use Rattle.serde_json.specs.Written.{items_have_float}
use Rattle.serde_json.specs.View.{view, items_view}
use Rattle.serde_json.specs.declared.value.Value.{Value}
use Rattle.name_search.specs.NameTables.{Name}
use Rattle.search_queries.specs.Answers.{name_answer, name_items}

pub names_have_no_float : (names : List Name) → items_have_float (name_items names) ≡ false
names_have_no_float [] = refl
names_have_no_float (name ∷ names) = names_have_no_float names

pub names-push : (values : List Value) (value : Value) (names : List Name) (name : Name)
    → view value ≡ name_answer name → items_view values ≡ name_items names
    → items_view (values ++ value ∷ []) ≡ name_items (names ++ name ∷ [])
names-push [] value [] name is same = ap (λ d. item d no_items) is
names-push [] value (first ∷ names) name is same = cc
names-push (v ∷ values) value [] name is same = cc
names-push (v ∷ values) value (first ∷ names) name is same =
    let heads : view v ≡ name_answer first = cc in
    let tails : items_view values ≡ name_items names = cc in
    ap (λ d. item d (items_view (values ++ value ∷ []))) heads
    ∙ ap (item (name_answer first)) (names-push values value names name is tails)
