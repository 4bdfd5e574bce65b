-- Loops that turn one list into another, item by item: what was found so far, and what the rest gives.
use Rattle.std.proofs.Common.{◌≡◌, ℕ, List, [], ◌∷◌, ◌++◌, map, Option, Some, None, option_map, Ok, String, Global, Less, Bool, ◌&&◌, refl, sym, subst, ap, ◌∙◌, rules, append_assoc}
use Rattle.std.proofs.lemmas.List.{map-append}
use Rattle.std.proofs.lemmas.Grind.{common_steps}
use Rattle.std.specs.Prelude.{string_bytes}
use Rattle.std.specs.String.{string_cmp}
use Rattle.std.specs.Ordering.{nat_cmp}
use Rattle.std.specs.Cmp.Lexicographic.{slice_cmp}
use Rattle.std.specs.List.{AllByRecursion, list_all}
use Rattle.std.specs.List.Sorted.{IsStrictlySortedBy}
use Rattle.std.specs.Map.{keys_of}
use Rattle.serde_json.specs.Find.{as_str}
use Rattle.serde_json.specs.View.{view, items_view, members_view}
use Rattle.serde_json.specs.declared.value.Value.{Value}
use Rattle.item_fields.specs.declared.fields.Kind.{Kind}
use Rattle.item_fields.specs.declared.item.RawItem.{RawItem}
use Rattle.item_fields.specs.Names.{NamesRise, names_of_fields}
use Rattle.upload_format.specs.Bodies.{append_read, list_of, member_names, or_no_upload, raw_item_of, text_members}

-- what was found, followed by what the rest gives
abbrev pub with_front : {X : Type 0} → List X → Option (List X) → Option (List X)
with_front front rest = append_read (Some front) rest

-- the last item of the front may be the first of the rest instead
pub with_front-push : {X : Type 0} (front : List X) (x : X) (rest : Option (List X)) → with_front (front ++ x ∷ []) rest ≡ with_front front (option_map (λ xs. x ∷ xs) rest)
with_front-push front x None = refl
with_front-push front x (Some rest) = ap Some (append_assoc front (x ∷ []) rest)

pub with_front-end : {X : Type 0} (front : List X) → with_front front (Some []) ≡ Some front
with_front-end front = search (rules, common_steps)

pub some_found : {X : Type 0} (o : Option X) (x : X) → or_no_upload o ≡ Ok x → o ≡ Some x
some_found None x is = cc
some_found (Some y) x is = cc

-- the next member is one more pair
pub fields_step : (front : List (List ℕ × List ℕ)) (name : String Global) (value : Value) (text : List ℕ) (rest : List (String Global × Value)) → or_no_upload (as_str (view value)) ≡ Ok text
    → with_front (front ++ (string_bytes name, text) ∷ []) (text_members (members_view rest)) ≡ with_front front (text_members (members_view ((name, value) ∷ rest)))
fields_step front name value text rest is = with_front-push front (string_bytes name, text) (text_members (members_view rest)) ∙ ap (with_front front) (sym (rw (some_found (as_str (view value)) text is) refl))

-- ---- the names of an object's pairs rise, because its keys do

below : (e : String Global) (es : List (String Global)) → AllByRecursion (λ k. string_cmp e k ≡ Less) es → AllByRecursion (λ k. slice_cmp nat_cmp (string_bytes e) k ≡ Less) (map string_bytes es)
below e [] h = tt
below e (k ∷ es) h = (h.0, below e es h.1)

sorted : (es : List (String Global)) → IsStrictlySortedBy string_cmp es → IsStrictlySortedBy (slice_cmp nat_cmp) (map string_bytes es)
unfolding IsStrictlySortedBy
sorted [] h = tt
sorted (e ∷ es) h = (below e es h.0, sorted es h.1)

below_front : (own : List ℕ) (xs ys : List (List ℕ)) → AllByRecursion (λ k. slice_cmp nat_cmp own k ≡ Less) (xs ++ ys)
    → AllByRecursion (λ k. slice_cmp nat_cmp own k ≡ Less) xs
below_front own [] ys all = tt
below_front own (x ∷ xs) ys all = (all.0, below_front own xs ys all.1)

sorted_front : (xs ys : List (List ℕ)) → IsStrictlySortedBy (slice_cmp nat_cmp) (xs ++ ys) → IsStrictlySortedBy (slice_cmp nat_cmp) xs
unfolding IsStrictlySortedBy
sorted_front [] ys all = tt
sorted_front (x ∷ xs) ys all = (below_front x xs ys all.0, sorted_front xs ys all.1)

-- the names of the pairs so far, followed by those that are left
abbrev pub names_with : List (List ℕ × List ℕ) → List (String Global × Value) → List (List ℕ)
names_with front rest = names_of_fields front ++ map string_bytes (keys_of rest)

-- the next name becomes one of the front's
pub names_step : (front : List (List ℕ × List ℕ)) (name : String Global) (value : Value) (text : List ℕ) (rest : List (String Global × Value))
    → names_with (front ++ (string_bytes name, text) ∷ []) rest ≡ names_with front ((name, value) ∷ rest)
names_step front name value text rest =
    ap (λ ns. ns ++ map string_bytes (keys_of rest)) (map-append (λ field. field.0) front ((string_bytes name, text) ∷ []))
    ∙ append_assoc (names_of_fields front) (string_bytes name ∷ []) (map string_bytes (keys_of rest))

-- so the pairs with the next one rise, if the keys do
pub rising_step : (es : List (String Global × Value)) (front : List (List ℕ × List ℕ)) (name : String Global) (value : Value) (text : List ℕ) (rest : List (String Global × Value))
    → IsStrictlySortedBy string_cmp (keys_of es) → names_with front ((name, value) ∷ rest) ≡ map string_bytes (keys_of es)
    → NamesRise (front ++ (string_bytes name, text) ∷ [])
rising_step es front name value text rest ordered is =
    let P : List (List ℕ) → Type 0 = λ ns. IsStrictlySortedBy (slice_cmp nat_cmp) ns in
    let all : P (names_with (front ++ (string_bytes name, text) ∷ []) rest) =
    subst P (sym (names_step front name value text rest ∙ is)) (sorted (keys_of es) ordered) in
    sorted_front (names_of_fields (front ++ (string_bytes name, text) ∷ [])) (map string_bytes (keys_of rest)) all

pub list_all-member_names : (test : List ℕ → Bool) (es : List (String Global × Value)) → list_all (λ k. test (string_bytes k)) (keys_of es) ≡ list_all test (member_names (members_view es))
list_all-member_names test [] = refl
list_all-member_names test (e ∷ es) = ap (λ b. test (string_bytes e.0) && b) (list_all-member_names test es)

-- the next value is one more item
pub list_step : (kind : Kind) (front : List RawItem) (value : Value) (item : RawItem) (rest : List Value) → or_no_upload (raw_item_of kind (view value)) ≡ Ok item
    → with_front (front ++ item ∷ []) (list_of kind (items_view rest)) ≡ with_front front (list_of kind (items_view (value ∷ rest)))
list_step kind front value item rest is =
    with_front-push front item (list_of kind (items_view rest)) ∙ ap (with_front front) (sym (rw (some_found (raw_item_of kind (view value)) item is) refl))

-- ---- the three lists

-- if the first list was read, what follows it follows its items
pub found_behind : (first : Option (List RawItem)) (items : List RawItem) (list : Option (List RawItem)) → or_no_upload first ≡ Ok items
    → or_no_upload (append_read (Some items) list) ≡ or_no_upload (append_read first list)
found_behind first items list is = ap (λ o. or_no_upload (append_read o list)) (sym (some_found first items is))
