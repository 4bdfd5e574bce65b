-- What is written, token by token, is the text of the record.
use Rattle.std.proofs.Common.{◌≡◌, ℕ, zero, suc, ◌+◌, ◌<◌, ◌≤◌, Bool, true, false, ◌&&◌, List, [], ◌∷◌, ◌++◌, refl, sym, ap, ◌∙◌, arith, append_assoc, length, get_or, drop}
use Rattle.std.specs.Prelude.{nat_le, flat_map}
use Rattle.std.specs.List.{list_all}
use borrow.Author.Tests.{leb-true}
use Rattle.std.proofs.Math.ListN.{get_or-map}
use Rattle.std.proofs.lemmas.Bool.{true≢false}
use Rattle.std.proofs.lemmas.List.{drop_all, drop_more, length-map}
use Rattle.json.specs.Print.{print, print_from, quoted}
use Rattle.json.specs.Token.{Token, begin_object, end_object, key, string}
use Rattle.serde_json.specs.Written.{comma_if, members_text}
use Rattle.item_fields.specs.Fields.{fields}
use Rattle.lei_records.specs.Spelled.{is_absent}
use Rattle.register_words.specs.declared.sheets.Sheet.{Sheet}
use Rattle.copy_csv.specs.Sheets.{SheetRow, width}
use Rattle.copy_forms.specs.Json as form
use Rattle.copy_forms.specs.Json.{field_at, json_fields, json_places, json_record, members_of}
use Rattle.copy_forms.specs.JsonTexts.{field_tokens}
use Rattle.copy_forms.specs.JsonReading.{json_ranks}

-- ---- places and names

all-get : (test : ℕ → Bool) (xs : List ℕ) (k : ℕ) → list_all test xs ≡ true → k < length xs → test (get_or xs k 0) ≡ true
all-get test [] k all within = absurd (omega arith)
all-get test (x ∷ xs) zero all within = (parts (test x) (list_all test xs) all).0
  where
    parts : (a b : Bool) → a && b ≡ true → (a ≡ true) × (b ≡ true)
    parts true b is = (refl, is)
    parts false b is = absurd (true≢false (sym is))
all-get test (x ∷ xs) (suc k) all within = all-get test xs k (parts (test x) (list_all test xs) all) (omega arith)
  where
    parts : (a b : Bool) → a && b ≡ true → b ≡ true
    parts true b is = is
    parts false b is = absurd (true≢false (sym is))

-- whether the place is one of a row's
is_place : Sheet → ℕ → Bool
is_place sheet place = nat_le 1 place && nat_le place (width sheet)

all_are_places : (sheet : Sheet) → list_all (is_place sheet) (json_places sheet) ≡ true
unfolding is_place
all_are_places Sheet.Lei = refl
all_are_places Sheet.Rr = refl
all_are_places Sheet.Repex = refl

pub place-within : (sheet : Sheet) (k : ℕ) → k < length (json_places sheet) → (1 ≤ get_or (json_places sheet) k 0) × (get_or (json_places sheet) k 0 ≤ width sheet)
unfolding is_place
place-within sheet k within =
    let place = get_or (json_places sheet) k 0 in
    let both = parts (nat_le 1 place) (nat_le place (width sheet)) (all-get (is_place sheet) (json_places sheet) k (all_are_places sheet) within) in
    (leb-true 1 place both.0, leb-true place (width sheet) both.1)
  where
    parts : (a b : Bool) → a && b ≡ true → (a ≡ true) × (b ≡ true)
    parts true b is = (refl, is)
    parts false b is = absurd (true≢false (sym is))

all_are_ranks : (sheet : Sheet) → list_all (is_place sheet) (json_ranks sheet) ≡ true
unfolding is_place
all_are_ranks Sheet.Lei = refl
all_are_ranks Sheet.Rr = refl
all_are_ranks Sheet.Repex = refl

pub rank-within : (sheet : Sheet) (k : ℕ) → k < length (json_ranks sheet) → (1 ≤ get_or (json_ranks sheet) k 0) × (get_or (json_ranks sheet) k 0 ≤ width sheet)
unfolding is_place
rank-within sheet k within =
    let place = get_or (json_ranks sheet) k 0 in
    let both = parts (nat_le 1 place) (nat_le place (width sheet)) (all-get (is_place sheet) (json_ranks sheet) k (all_are_ranks sheet) within) in
    (leb-true 1 place both.0, leb-true place (width sheet) both.1)
  where
    parts : (a b : Bool) → a && b ≡ true → (a ≡ true) × (b ≡ true)
    parts true b is = (refl, is)
    parts false b is = absurd (true≢false (sym is))

-- ---- tokens

-- the tokens of these fields, and the brace that closes their object
pub object_end : List form.JsonField → List Token
object_end fields = flat_map field_tokens fields ++ end_object ∷ []

print-fields : (later : Bool) (fields : List form.JsonField) → print_from later (object_end fields) ≡ members_text later (members_of fields)
unfolding print_from object_end
print-fields true [] = refl
print-fields false [] = refl
print-fields later (field ∷ fields) = go (is_absent field.1) refl later (print-fields later fields) (print-fields true fields)
  where
    written : (l : Bool) → print_from true (flat_map field_tokens fields ++ end_object ∷ []) ≡ members_text true (members_of fields)
        → print_from l (key field.0 ∷ string field.1 ∷ (flat_map field_tokens fields ++ end_object ∷ []))
        ≡ comma_if l ++ (quoted field.0 ++ 58 ∷ (quoted field.1 ++ members_text true (members_of fields)))
    written true others =
        ap (λ t. 44 ∷ ((quoted field.0 ++ 58 ∷ []) ++ (quoted field.1 ++ t))) others
        ∙ ap (λ t. 44 ∷ t) (append_assoc (quoted field.0) (58 ∷ []) (quoted field.1 ++ members_text true (members_of fields)))
    written false others =
        ap (λ t. (quoted field.0 ++ 58 ∷ []) ++ (quoted field.1 ++ t)) others
        ∙ append_assoc (quoted field.0) (58 ∷ []) (quoted field.1 ++ members_text true (members_of fields))

    go : (b : Bool) → is_absent field.1 ≡ b → (l : Bool) → print_from l (flat_map field_tokens fields ++ end_object ∷ []) ≡ members_text l (members_of fields)
        → print_from true (flat_map field_tokens fields ++ end_object ∷ []) ≡ members_text true (members_of fields)
        → print_from l (flat_map field_tokens (field ∷ fields) ++ end_object ∷ []) ≡ members_text l (members_of (field ∷ fields))
    go true absent l same others = rw absent same
    go false absent l same others = rw absent (written l others)

pub print-record : (row : SheetRow) → print (begin_object ∷ object_end (json_fields row)) ≡ json_record row
unfolding json_record print_from
print-record row = ap (λ t. 123 ∷ t) (print-fields false (json_fields row))

-- one more field was written
pub tokens-more : (row : SheetRow) (tokens more all : List Token) (k place : ℕ) → tokens ++ object_end (drop k (json_fields row)) ≡ all → k < length (json_places row.sheet)
    → place ≡ get_or (json_places row.sheet) k 0 → more ≡ tokens ++ field_tokens (field_at row place) → more ++ object_end (drop (k + 1) (json_fields row)) ≡ all
unfolding object_end
tokens-more row tokens more all k place so_far within here is =
    let nothing : form.JsonField = field_at row 0 in
    let step : drop k (json_fields row) ≡ get_or (json_fields row) k nothing ∷ drop (k + 1) (json_fields row) =
    drop_more (json_fields row) k nothing (omega (arith, length-map (json_places row.sheet) (field_at row))) in
    let field : get_or (json_fields row) k nothing ≡ field_at row place = get_or-map (field_at row) (json_places row.sheet) k 0 ∙ ap (field_at row) (sym here) in
    let others = flat_map field_tokens (drop (k + 1) (json_fields row)) ++ end_object ∷ [] in
    ap (λ t. t ++ others) is ∙ append_assoc tokens (field_tokens (field_at row place)) others
    ∙ ap (λ t. tokens ++ t) (sym (append_assoc (field_tokens (field_at row place)) (flat_map field_tokens (drop (k + 1) (json_fields row))) (end_object ∷ [])))
    ∙ ap (λ f. tokens ++ ((field_tokens f ++ flat_map field_tokens (drop (k + 1) (json_fields row))) ++ end_object ∷ [])) (sym field)
    ∙ ap (λ l. tokens ++ (flat_map field_tokens l ++ end_object ∷ [])) (sym step) ∙ so_far

pub tokens-all : (row : SheetRow) (tokens done all : List Token) (k : ℕ) → tokens ++ object_end (drop k (json_fields row)) ≡ all → length (json_places row.sheet) ≤ k
    → done ≡ tokens ++ end_object ∷ [] → done ≡ all
unfolding object_end
tokens-all row tokens done all k so_far past is =
    is ∙ ap (λ l. tokens ++ (flat_map field_tokens l ++ end_object ∷ [])) (sym (drop_all k (json_fields row) (omega (arith, length-map (json_places row.sheet) (field_at row))))) ∙ so_far
