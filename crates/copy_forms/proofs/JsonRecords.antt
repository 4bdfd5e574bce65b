-- The record of a row: its fields in byte order of their names, and their order of place restored.
use Rattle.std.proofs.Common.{◌≡◌, ℕ, zero, suc, ◌-◌, Bool, true, false, cond, ◌==◌, ◌&&◌, List, [], ◌∷◌, ◌++◌, Option, Some, None, option_map, option_and_then, unwrap_or, inl, inr, refl, sym, ap, ◌∙◌, subst, arith, append_assoc, length, get_or, map, codes, length-append}
use Rattle.std.specs.List.{zip, list_all}
use Rattle.std.specs.Str.{is_utf8}
use Rattle.std.proofs.lemmas.Bool.Decides.{eqb_tells}
use Rattle.std.proofs.lemmas.List.{get_or_at, length-map}
use Rattle.lei_code.specs.Texts.{Text}
use Rattle.item_fields.specs.Fields.{exception_fields, fields, relation_fields}
use Rattle.lei_records.specs.Rows.{text_at}
use Rattle.register_words.specs.declared.sheets.Sheet.{Sheet}
use Rattle.copy_csv.specs.Sheets.{IsSheetRow, SheetRow, column_names, row_of_texts, width}
use Rattle.copy_forms.specs.Json.{json_fields, json_names, json_places, json_record}
use Rattle.copy_forms.specs.JsonTexts.{json_fields_text}
use Rattle.copy_forms.specs.JsonReading.{after_front, fields_from, json_ranks, record_from, row_by_names}
use Rattle.copy_forms.proofs.JsonStrings.{after_front-taken}
use Rattle.copy_forms.proofs.JsonFields.{FieldsTaken, are_apart, fields-again, fields-taken, fields-text, is_apart, utf8-nil}

-- ---- the text

zip-map : (f g : ℕ → Text) (places : List ℕ) → map (λ place. (f place, g place)) places ≡ zip (map f places) (map g places)
zip-map f g [] = refl
zip-map f g (place ∷ places) = ap (λ fields. (f place, g place) ∷ fields) (zip-map f g places)

-- the texts of a row in byte order of their names
abbrev pub in_json_order : SheetRow → List Text
in_json_order row = map (text_at row.texts) (json_places row.sheet)

pub record-text : (row : SheetRow) → json_record row ≡ 123 ∷ json_fields_text false (zip (json_names row.sheet) (in_json_order row))
unfolding json_record
record-text row =
    ap (λ l. 123 ∷ l) (fields-text false (json_fields row) ∙ ap (json_fields_text false) (zip-map (text_at (column_names row.sheet)) (text_at row.texts) (json_places row.sheet)))

-- ---- names and places

pub column_names-apart : (sheet : Sheet) → are_apart (json_names sheet) ≡ true
unfolding are_apart is_apart fields relation_fields exception_fields
column_names-apart Sheet.Lei = refl
column_names-apart Sheet.Rr = refl
column_names-apart Sheet.Repex = refl

pub length-names : (sheet : Sheet) → length (json_names sheet) ≡ width sheet
unfolding fields relation_fields exception_fields
length-names Sheet.Lei = refl
length-names Sheet.Rr = refl
length-names Sheet.Repex = refl

-- this many places, starting after k
places_from : ℕ → ℕ → List ℕ
places_from k zero = []
places_from k (suc n) = suc k ∷ places_from (suc k) n

text-next : (front others : List Text) (text : Text) → text_at (front ++ text ∷ others) (suc (length front)) ≡ text
text-next front others text =
    let not_first : (suc (length front) == 0) ≡ false = elim (eqb_tells (suc (length front)) 0) [ inl is ↦ absurd (omega (arith, is.1)) | inr is ↦ is.0 ] in
    let at : suc (length front) - 1 ≡ length front = omega arith in
    let all = front ++ text ∷ others in
    ap (λ b. cond b (codes "") (get_or all (suc (length front) - 1) (codes ""))) not_first ∙ ap (λ k. get_or all k (codes "")) at
    ∙ get_or_at front text others (codes "") (length front) refl

-- the texts at all places are the whole list
listed : (front texts : List Text) → map (text_at (front ++ texts)) (places_from (length front) (length texts)) ≡ texts
unfolding places_from
listed front [] = refl
listed front (text ∷ texts) =
    let longer : (front ++ text ∷ []) ++ texts ≡ front ++ text ∷ texts = append_assoc front (text ∷ []) texts in
    let count : length (front ++ text ∷ []) ≡ suc (length front) = omega (arith, length-append front (text ∷ [])) in
    let others : map (text_at (front ++ text ∷ texts)) (places_from (suc (length front)) (length texts)) ≡ texts =
    ap (λ all. map (text_at all) (places_from (suc (length front)) (length texts))) (sym longer)
    ∙ ap (λ k. map (text_at ((front ++ text ∷ []) ++ texts)) (places_from k (length texts))) (sym count) ∙ listed (front ++ text ∷ []) texts in
    ap (λ t. t ∷ map (text_at (front ++ text ∷ texts)) (places_from (suc (length front)) (length texts))) (text-next front texts text)
    ∙ ap (λ l. text ∷ l) others

all_places : (texts : List Text) (n : ℕ) → length texts ≡ n → map (text_at texts) (places_from 0 n) ≡ texts
all_places texts n long = ap (λ k. map (text_at texts) (places_from 0 k)) (sym long) ∙ listed [] texts

-- from the order of places to that of names and back
there : (sheet : Sheet) (texts : List Text) → map (text_at (map (text_at texts) (json_ranks sheet))) (json_places sheet) ≡ map (text_at texts) (places_from 0 (width sheet))
unfolding places_from
there Sheet.Lei texts = refl
there Sheet.Rr texts = refl
there Sheet.Repex texts = refl

back : (sheet : Sheet) (texts : List Text) → map (text_at (map (text_at texts) (json_places sheet))) (json_ranks sheet) ≡ map (text_at texts) (places_from 0 (width sheet))
unfolding places_from
back Sheet.Lei texts = refl
back Sheet.Rr texts = refl
back Sheet.Repex texts = refl

length-ranks : (sheet : Sheet) → length (json_ranks sheet) ≡ width sheet
length-ranks Sheet.Lei = refl
length-ranks Sheet.Rr = refl
length-ranks Sheet.Repex = refl

length-places : (sheet : Sheet) → length (json_places sheet) ≡ width sheet
length-places Sheet.Lei = refl
length-places Sheet.Rr = refl
length-places Sheet.Repex = refl

-- the text at a place is UTF-8 if all texts are
utf8-get : (texts : List Text) (k : ℕ) → list_all is_utf8 texts ≡ true → is_utf8 (get_or texts k (codes "")) ≡ true
utf8-get [] k all = utf8-nil
utf8-get (text ∷ texts) zero all = (all_parts (is_utf8 text) (list_all is_utf8 texts) all).0
  where
    all_parts : (a b : Bool) → a && b ≡ true → (a ≡ true) × (b ≡ true)
    all_parts true b is = (refl, is)
    all_parts false b is = cc
utf8-get (text ∷ texts) (suc k) all = utf8-get texts k (all_parts (is_utf8 text) (list_all is_utf8 texts) all)
  where
    all_parts : (a b : Bool) → a && b ≡ true → b ≡ true
    all_parts true b is = is
    all_parts false b is = cc

utf8-at : (texts : List Text) (place : ℕ) → list_all is_utf8 texts ≡ true → is_utf8 (text_at texts place) ≡ true
utf8-at texts place all = go (place == 0)
  where
    go : (b : Bool) → is_utf8 (cond b (codes "") (get_or texts (place - 1) (codes ""))) ≡ true
    go true = utf8-nil
    go false = utf8-get texts (place - 1) all

utf8-map : (texts : List Text) (places : List ℕ) → list_all is_utf8 texts ≡ true → list_all is_utf8 (map (text_at texts) places) ≡ true
utf8-map texts [] all = refl
utf8-map texts (place ∷ places) all = rw (utf8-at texts place all) (utf8-map texts places all)

-- ---- the record is read back

pub row_by_names-again : (row : SheetRow) → IsSheetRow row → row_by_names row.sheet (in_json_order row) ≡ row
unfolding row_by_names
row_by_names-again row is = ap (row_of_texts row.sheet) (back row.sheet row.texts ∙ all_places row.texts (width row.sheet) is.full)

pub record-again : (row : SheetRow) (rest : List ℕ) → IsSheetRow row → record_from row.sheet (json_record row ++ rest) ≡ Some (row, rest)
unfolding record_from
record-again row rest is =
    let texts = in_json_order row in
    let long : length texts ≡ length (json_names row.sheet) = length-map (json_places row.sheet) (text_at row.texts) ∙ length-places row.sheet ∙ sym (length-names row.sheet) in
    let reads = fields-again (json_names row.sheet) texts false rest (column_names-apart row.sheet) long (utf8-map row.texts (json_places row.sheet) is.utf8) in
    ap (λ l. option_and_then (λ r. option_map (λ read. (row_by_names row.sheet read.0, read.1)) (fields_from (json_names row.sheet) false r)) (after_front (123 ∷ []) (l ++ rest))) (record-text row)
    ∙ ap (option_map (λ read. (row_by_names row.sheet read.0, read.1))) reads
    ∙ ap (λ r. Some (r, rest)) (row_by_names-again row is)

pub record RecordTaken (sheet : Sheet) (bytes : List ℕ) (row : SheetRow) (rest : List ℕ) : Type 0 where
  pub is : bytes ≡ json_record row ++ rest
  pub holds : IsSheetRow row
  pub belongs : row.sheet ≡ sheet

row_by_names-taken : (sheet : Sheet) (bytes : List ℕ) (texts : List Text) (rest : List ℕ) → FieldsTaken (json_names sheet) false bytes texts rest
    → RecordTaken sheet (123 ∷ bytes) (row_by_names sheet texts) rest
unfolding row_by_names
row_by_names-taken sheet bytes texts rest taken =
    let long : length texts ≡ width sheet = taken.long ∙ length-names sheet in
    let row = row_of_texts sheet (map (text_at texts) (json_ranks sheet)) in
    let order : in_json_order row ≡ texts = there sheet texts ∙ all_places texts (width sheet) long in
    record {
      is = ap (λ l. 123 ∷ l) taken.is ∙ ap (λ t. 123 ∷ (json_fields_text false (zip (json_names sheet) t) ++ rest)) (sym order) ∙ ap (λ l. l ++ rest) (sym (record-text row));
      holds = record { full = length-map (json_ranks sheet) (text_at texts) ∙ length-ranks sheet; utf8 = utf8-map texts (json_ranks sheet) taken.utf8 };
      belongs = refl;
    }

pub record-taken : (sheet : Sheet) (bytes : List ℕ) (row : SheetRow) (rest : List ℕ) → record_from sheet bytes ≡ Some (row, rest) → RecordTaken sheet bytes row rest
unfolding record_from
record-taken sheet bytes row rest is = go (after_front (123 ∷ []) bytes) refl is
  where
    inner : (behind : List ℕ) (found : Option (List Text × List ℕ)) → after_front (123 ∷ []) bytes ≡ Some behind → fields_from (json_names sheet) false behind ≡ found
        → option_map {U = SheetRow × List ℕ} (λ read. (row_by_names sheet read.0, read.1)) found ≡ Some (row, rest) → RecordTaken sheet bytes row rest
    inner behind None front fields same = cc
    inner behind (Some read) front fields same =
        let taken = row_by_names-taken sheet behind read.0 read.1 (fields-taken (json_names sheet) false behind read.0 read.1 fields) in
        let is_row : row_by_names sheet read.0 ≡ row = ap (λ o. unwrap_or (option_map (λ p. p.0) o) row) same in
        let is_rest : read.1 ≡ rest = ap (λ o. unwrap_or (option_map (λ p. p.1) o) rest) same in
        let P : List ℕ → Type 0 = λ b. RecordTaken sheet b row rest in
        let Q : List ℕ → Type 0 = λ r. RecordTaken sheet (123 ∷ behind) row r in
        let R : SheetRow → Type 0 = λ r. RecordTaken sheet (123 ∷ behind) r read.1 in
        subst P (sym (after_front-taken (123 ∷ []) bytes behind front)) (subst Q is_rest (subst R is_row taken))

    go : (found : Option (List ℕ)) → after_front (123 ∷ []) bytes ≡ found
        → option_and_then {U = SheetRow × List ℕ} (λ r. option_map (λ read. (row_by_names sheet read.0, read.1)) (fields_from (json_names sheet) false r)) found ≡ Some (row, rest)
        → RecordTaken sheet bytes row rest
    go None front same = cc
    go (Some behind) front same = inner behind (fields_from (json_names sheet) false behind) front refl same
