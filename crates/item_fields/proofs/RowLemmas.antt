-- The checks of an item by its texts in order of place, and the row that it has if they pass.
use Rattle.std.proofs.Common.{◌≡◌, ℕ, ℤ, ◌<◌, ◌≤◌, ◌%◌, zero, suc, List, [], ◌∷◌, Bool, true, false, not, ◌&&◌, cond, length, get_or, map, take, min, Option, None, Some, unwrap_or, refl, sym, ap, subst, ◌∙◌, arith, lit<}
use Rattle.std.specs.Prelude.{◌==◌, codes, IfSome, is_some, IfOk, Result, Ok, Err}
use Rattle.std.proofs.lemmas.Bool.{false≢true, or_parts}
use Rattle.std.proofs.lemmas.Int.{ints}
use Rattle.std.specs.List.{find, list_any, zip}
use Rattle.std.specs.Option.{option_map, option_map_or, option_or}
use Rattle.std.specs.Map.{lookup}
use Rattle.std.specs.Str.{bytes_eq}
use Rattle.std.proofs.lemmas.List.{get_or-map, get_or-take, length-map}
use Rattle.std.proofs.lemmas.Slice.Eq.{bytes_eq-Decides}
use Rattle.std.proofs.lemmas.Slice.Zip.{get_or-zip, length-zip}
use Rattle.jiff.specs.Words.{Error, parse_timestamp}
use Rattle.lei_code.specs.Code.{IsValid}
use Rattle.lei_code.specs.Number.{number}
use Rattle.lei_shapes.specs.declared.shapes.Shape.{Shape}
use Rattle.lei_shapes.specs.Clock.{moment_text}
use Rattle.lei_shapes.specs.Lists.{category_of, entity_status_of, event_status_of, event_type_of, exception_category_of, reason_of, record_status_of, relation_registration_of, relation_status_of, relation_type_of}
use Rattle.lei_shapes.specs.Moment.{IsMoment, is_moment, moment_of_instant, read_moment, whole_seconds}
use Rattle.lei_shapes.specs.Shape.{between_spaces, is_code, fits_shape}
use Rattle.lei_shapes.proofs.CodeLemmas.{one_code}
use Rattle.lei_shapes.proofs.MomentLemmas.{read_moment-text}
use Rattle.item_fields.specs.declared.fields.Content.{Content}
use Rattle.item_fields.specs.declared.fields.Facts.{Facts}
use Rattle.item_fields.specs.declared.fields.Kind.{Kind}
use Rattle.item_fields.specs.declared.fields.Need.{Need}
use Rattle.lei_records.specs.declared.item.Readied.{Readied}
use Rattle.item_fields.specs.declared.readying.FieldCheck.{FieldCheck}
use Rattle.lei_records.specs.declared.rules.Rules.{Rules}
use Rattle.lei_records.specs.Cells.{has_no_event, successors_in}
use Rattle.lei_records.specs.Checks.{FailedCheck}
use Rattle.item_fields.specs.Fields.{Field, exception_fields, field_count, fields, fields_of, codes_in, fits_content, is_needed, may_be_present, relation_fields, row_fields, row_len, successors_shape}
use Rattle.item_fields.specs.Items.{facts_of, failed_check, failed_field, first_field, has_other_remainder, is_archival, is_field, says_withdraw, item_of, row_text, miscoded_field, misshapen_field, missing_field, text_in_row, readied_as, row_of, text_under, unknown_name}
use Rattle.item_fields.specs.Names.{NamesRise, names_of_fields}
use Rattle.lei_records.specs.Rows.{Row}
use Rattle.item_fields.specs.Sheets.{field_fails, first_unknown, facts_at, failed_at, first_at, printed_at, readied_by, texts_by_place, withdraws_at}
use Rattle.lei_records.specs.Spelled.{AreCodes, IsExceptionRow, IsListedText, IsPrinted, IsRecordRow, IsRelationRow, is_absent, present}
use Rattle.item_fields.specs.Items.{IsRowOfKind}
use Rattle.item_fields.proofs.Codes.{IsValid-from_shape}
use Rattle.item_fields.proofs.NameLemmas.{least-first, none_first_of}
use Rattle.item_fields.proofs.SheetLemmas.{find-map, length-fields_of, map-map}
use Rattle.item_fields.proofs.SuccessorShapes.{AreCodes-from_shape}

-- ---- by place as by name

zip-self : {X Y : Type 0} (g : X → Y) (xs : List X) → zip xs (map g xs) ≡ map (λ x. (x, g x)) xs
zip-self g [] = refl
zip-self g (x ∷ xs) = ap (λ l. (x, g x) ∷ l) (zip-self g xs)

-- the same for a prefix of the list
zip-front : {X Y : Type 0} (g : X → Y) (n : ℕ) (xs : List X) → zip (take n xs) (map g xs) ≡ map (λ x. (x, g x)) (take n xs)
zip-front g zero xs = refl
zip-front g (suc n) [] = refl
zip-front g (suc n) (x ∷ xs) = ap (λ l. (x, g x) ∷ l) (zip-front g n xs)

none_first : {X : Type 0} (b : Bool) (x : X) (rest : Option X) → cond b (Some x) rest ≡ None → (b ≡ false) × (rest ≡ None)
none_first true x rest none = cc
none_first false x rest none = (refl, none)

none_unknown : (rules : Rules) (kind : Kind) (pairs : List (List ℕ × List ℕ)) → unknown_name rules kind pairs ≡ None → first_unknown rules kind pairs ≡ None
none_unknown rules kind pairs known = none_first_of (λ name. not (is_field rules kind name)) (names_of_fields pairs) known

-- if names rise, the first that isn't a field's is the least
pub unknown_name-first : (rules : Rules) (kind : Kind) (pairs : List (List ℕ × List ℕ)) → NamesRise pairs → unknown_name rules kind pairs ≡ first_unknown rules kind pairs
unknown_name-first rules kind pairs rising = least-first (λ name. not (is_field rules kind name)) (names_of_fields pairs) rising

-- an item without an unknown name has no text under one
not_sent : (rules : Rules) (kind : Kind) (name : List ℕ) (pairs : List (List ℕ × List ℕ)) → is_field rules kind name ≡ false → first_unknown rules kind pairs ≡ None → text_under pairs name ≡ []
not_sent rules kind name [] unknown known = refl
not_sent rules kind name (p ∷ pairs) unknown known =
    let parts = none_first (not (is_field rules kind p.0)) p.0 (first_unknown rules kind pairs) known in
    elim (bytes_eq name p.0) as (λ b. bytes_eq name p.0 ≡ b → unwrap_or (cond b (Some p.1) (lookup (bytes_eq name) pairs)) [] ≡ []) [
      | true ↦ λ is. (
          let same : name ≡ p.0 = (bytes_eq-Decides name p.0).0 is in
          let told : not false ≡ false = ap not (sym unknown ∙ ap (is_field rules kind) same) ∙ parts.0 in
          absurd (false≢true (sym told)))
      | false ↦ λ is. not_sent rules kind name pairs unknown parts.1
    ] refl

no_action : (rules : Rules) → is_field rules Kind.Record (codes "Action") ≡ false
unfolding fields
no_action Rules.First = refl
no_action Rules.Second = refl
no_action Rules.Third = refl

no_action_either : (rules : Rules) → is_field rules Kind.Relation (codes "Action") ≡ false
unfolding relation_fields
no_action_either rules = refl

no_status : (rules : Rules) → is_field rules Kind.Exception (codes "Registration.RegistrationStatus") ≡ false
unfolding exception_fields
no_status rules = refl

never_withdrawn : (rules : Rules) (kind : Kind) (pairs : List (List ℕ × List ℕ)) → is_field rules kind (codes "Action") ≡ false → first_unknown rules kind pairs ≡ None → false ≡ says_withdraw pairs
never_withdrawn rules kind pairs none known = sym (ap (λ text. bytes_eq text (codes "WITHDRAW")) (not_sent rules kind (codes "Action") pairs none known))

-- what the needs depend on, by place as by name
facts_at-texts_of : (rules : Rules) (kind : Kind) (pairs : List (List ℕ × List ℕ)) → first_unknown rules kind pairs ≡ None → facts_at rules kind (texts_by_place kind pairs) ≡ facts_of rules pairs
unfolding fields relation_fields exception_fields
facts_at-texts_of rules Kind.Record pairs known =
    let same = never_withdrawn rules Kind.Record pairs (no_action rules) known in
    λ i. record { rules = rules; archival = is_archival pairs; withdrawal = same i }
facts_at-texts_of rules Kind.Relation pairs known =
    let same = never_withdrawn rules Kind.Relation pairs (no_action_either rules) known in
    λ i. record { rules = rules; archival = is_archival pairs; withdrawal = same i }
facts_at-texts_of rules Kind.Exception pairs known =
    let same : false ≡ is_archival pairs = sym (ap (λ text. bytes_eq text (codes "PENDING_ARCHIVAL")) (not_sent rules Kind.Exception (codes "Registration.RegistrationStatus") pairs (no_status rules) known)) in
    λ i. record { rules = rules; archival = same i; withdrawal = says_withdraw pairs }

name_of_found : {Y : Type 0} (g : Field → Y) (found : Option Field) → option_map (λ (entry : Field × Y). entry.0.0) (option_map (λ field. (field, g field)) found) ≡ option_map (λ field. field.0) found
name_of_found g None = refl
name_of_found g (Some field) = refl

pub first_at-texts_of : (rules : Rules) (check : FieldCheck) (kind : Kind) (pairs : List (List ℕ × List ℕ)) → first_unknown rules kind pairs ≡ None → first_at rules check kind (texts_by_place kind pairs) ≡ first_field (field_fails check (facts_of rules pairs)) kind pairs
unfolding first_at
first_at-texts_of rules check kind pairs known =
    let text : Field → List ℕ = λ field. text_under pairs field.0 in
    let asks : Facts → Field × List ℕ → Bool = λ facts entry. field_fails check facts entry.0 entry.1 in
    ap (λ facts. option_map (λ entry. entry.0.0) (find (asks facts) (zip (fields_of kind) (texts_by_place kind pairs)))) (facts_at-texts_of rules kind pairs known)
    ∙ (ap (λ l. option_map (λ entry. entry.0.0) (find (asks (facts_of rules pairs)) l)) (zip-self text (fields_of kind))
    ∙ (ap (option_map (λ entry. entry.0.0)) (find-map (asks (facts_of rules pairs)) (λ field. (field, text field)) (fields_of kind))
    ∙ name_of_found text (find (λ field. field_fails check (facts_of rules pairs) field (text field)) (fields_of kind))))

pub printed_at-texts_of : (kind : Kind) (pairs : List (List ℕ × List ℕ)) → printed_at kind (texts_by_place kind pairs) ≡ row_of kind pairs
unfolding printed_at row_of
printed_at-texts_of kind pairs =
    let make : Field × List ℕ → List ℕ = λ entry. row_text entry.0.1 entry.1 in
    ap (map make) (zip-front (λ field. text_under pairs field.0) (row_len kind) (fields_of kind)) ∙ map-map make (λ field. (field, text_under pairs field.0)) (row_fields kind)

pub failed_at-texts_of : (rules : Rules) (kind : Kind) (pairs : List (List ℕ × List ℕ)) → unknown_name rules kind pairs ≡ None → failed_check rules kind pairs ≡ failed_at rules kind (texts_by_place kind pairs)
unfolding failed_check failed_at
failed_at-texts_of rules kind pairs known =
    let first = none_unknown rules kind pairs known in
    rw (known, first_at-texts_of rules FieldCheck.Presence kind pairs first, first_at-texts_of rules FieldCheck.Shape kind pairs first, first_at-texts_of rules FieldCheck.Digits kind pairs first) refl

-- ---- a row of texts that pass

none_found : {X : Type 0} (p : X → Bool) (xs : List X) (k : ℕ) (d : X) → find p xs ≡ None → k < length xs → p (get_or xs k d) ≡ false
none_found p [] k d none within = absurd (omega arith)
none_found p (x ∷ xs) zero d none within = (none_first (p x) x (find p xs) none).0
none_found p (x ∷ xs) (suc k) d none within = none_found p xs k d (none_first (p x) x (find p xs) none).1 (omega arith)

unmapped : {X Y : Type 0} (f : X → Y) (o : Option X) → option_map f o ≡ None → o ≡ None
unmapped f None is = refl
unmapped f (Some x) is = cc

abbrev blank : Field
blank = ([], Content.Action, Need.Always)

-- the field and the text at an index
abbrev field_at : Kind → ℕ → Field
field_at kind k = get_or (fields_of kind) k blank

abbrev sent : Row → ℕ → List ℕ
sent texts k = get_or texts k []

row-within : (kind : Kind) (k : ℕ) → k < row_len kind → k < field_count kind
row-within Kind.Record k bound = bound
row-within Kind.Relation k bound = bound
row-within Kind.Exception k bound = omega (arith, bound)

length-row_fields : (kind : Kind) → length (row_fields kind) ≡ row_len kind
unfolding fields relation_fields exception_fields
length-row_fields Kind.Record = refl
length-row_fields Kind.Relation = refl
length-row_fields Kind.Exception = refl

entry_at : (kind : Kind) (texts : Row) → length texts ≡ field_count kind → (k : ℕ) → k < field_count kind → get_or (zip (fields_of kind) texts) k (blank, []) ≡ (field_at kind k, sent texts k)
entry_at kind texts len k bound = get_or-zip (fields_of kind) texts k (blank, []) (rw (length-fields_of kind) bound) (rw len bound)

-- the same for the fields that are in a row
row_entry_at : (kind : Kind) (texts : Row) → length texts ≡ field_count kind → (k : ℕ) → k < row_len kind → get_or (zip (row_fields kind) texts) k (blank, []) ≡ (field_at kind k, sent texts k)
row_entry_at kind texts len k bound =
    get_or-zip (row_fields kind) texts k (blank, []) (rw (length-row_fields kind) bound) (rw len (row-within kind k bound))
    ∙ ap (λ field. (field, sent texts k)) (get_or-take (row_len kind) (fields_of kind) k blank bound)

within_entries : (fs : List Field) (texts : Row) (k : ℕ) → k < length fs → k < length texts → k < length (zip fs texts)
within_entries [] texts k first second = absurd (omega (arith, first))
within_entries (f ∷ fs) [] k first second = absurd (omega (arith, second))
within_entries (f ∷ fs) (t ∷ texts) zero first second = omega arith
within_entries (f ∷ fs) (t ∷ texts) (suc k) first second = let rest = within_entries fs texts k (omega (arith, first)) (omega (arith, second)) in omega (arith, rest)

-- what a check that finds no field says about each
asked_at : (rules : Rules) (check : FieldCheck) (kind : Kind) (texts : Row) → length texts ≡ field_count kind → first_at rules check kind texts ≡ None → (k : ℕ) → k < field_count kind
    → field_fails check (facts_at rules kind texts) (field_at kind k) (sent texts k) ≡ false
unfolding first_at
asked_at rules check kind texts len none k bound =
    let asks : Field × List ℕ → Bool = λ entry. field_fails check (facts_at rules kind texts) entry.0 entry.1 in
    ap asks (sym (entry_at kind texts len k bound))
    ∙ none_found asks (zip (fields_of kind) texts) k (blank, []) (unmapped (λ entry. entry.0.0) (find asks (zip (fields_of kind) texts)) none)
    (within_entries (fields_of kind) texts k (rw (length-fields_of kind) bound) (rw len bound))

row_at : (kind : Kind) (texts : Row) → length texts ≡ field_count kind → (k : ℕ) → k < row_len kind → get_or (printed_at kind texts) k [] ≡ row_text (field_at kind k).1 (sent texts k)
unfolding printed_at
row_at kind texts len k bound =
    let make : Field × List ℕ → List ℕ = λ entry. row_text entry.0.1 entry.1 in
    get_or-map make (zip (row_fields kind) texts) k (blank, []) [] (within_entries (row_fields kind) texts k (rw (length-row_fields kind) bound) (rw len (row-within kind k bound)))
    ∙ ap make (row_entry_at kind texts len k bound)

-- the checks that the texts at the places of a kind of item have passed
record Passed (rules : Rules) (kind : Kind) (texts : Row) : Type 0 where
  len : length texts ≡ field_count kind
  presence : (k : ℕ) → k < field_count kind → field_fails FieldCheck.Presence (facts_at rules kind texts) (field_at kind k) (sent texts k) ≡ false
  shape : (k : ℕ) → k < field_count kind → field_fails FieldCheck.Shape (facts_at rules kind texts) (field_at kind k) (sent texts k) ≡ false
  digits : (k : ℕ) → k < field_count kind → field_fails FieldCheck.Digits (facts_at rules kind texts) (field_at kind k) (sent texts k) ≡ false

fit : (absent fits may : Bool) → absent ≡ false → not absent && not (fits && may) ≡ false → fits ≡ true
fit true fits may stands passes = cc
fit false true may stands passes = refl
fit false false may stands passes = cc

right : (shape check : Bool) → shape ≡ true → shape && not check ≡ false → check ≡ true
right true true fits passes = refl
right true false fits passes = cc
right false check fits passes = cc

valid_code : (text : List ℕ) (may : Bool) → is_absent text ≡ false → not (is_absent text) && not (is_code text && may) ≡ false → list_any has_other_remainder (text ∷ []) ≡ false → IsValid text
valid_code text may stands shape digits =
    let fits : is_code text ≡ true = fit (is_absent text) (is_code text) may stands shape in
    IsValid-from_shape text fits (right (is_code text) (number text % 97 == 1) fits (or_parts (has_other_remainder text) false digits).0)

is_moment-holds : (s : ℤ) → is_moment s ≡ true → IsMoment s
is_moment-holds s is = grind (arith, ints)

moment_of_reading : (reading : Result ℤ Error) (s : ℤ) → moment_of_instant reading ≡ Some s → IsMoment s
moment_of_reading (Err e) s is = cc
moment_of_reading (Ok nanos) s is =
    elim (is_moment (whole_seconds nanos)) as (λ b. is_moment (whole_seconds nanos) ≡ b → cond b (Some (whole_seconds nanos)) None ≡ Some s → IsMoment s) [
      | true ↦ λ holds found. (let same : whole_seconds nanos ≡ s = cc in subst IsMoment same (is_moment-holds (whole_seconds nanos) holds))
      | false ↦ λ fails found. cc
    ] refl is

is_moment-read : (text : List ℕ) (s : ℤ) → read_moment text ≡ Some s → IsMoment s
unfolding read_moment
is_moment-read text s is = moment_of_reading (parse_timestamp text) s is

printed_moment : (text form : List ℕ) (read : Option ℤ) → read_moment text ≡ read → is_some read ≡ true → form ≡ unwrap_or (option_map moment_text read) text → IsPrinted form
printed_moment text form None told fits is = cc
printed_moment text form (Some s) told fits is =
    (s, ap read_moment is ∙ read_moment-text s (is_moment-read text s told), is)

-- a moment that is present, in printed form
moment_stands : (text : List ℕ) (may : Bool) → is_absent text ≡ false → not (is_absent text) && not (is_some (read_moment text) && may) ≡ false → IsPrinted (text_in_row Shape.Moment text)
moment_stands text may stands shape =
    printed_moment text (text_in_row Shape.Moment text) (read_moment text) refl (fit (is_absent text) (is_some (read_moment text)) may stands shape)
    (ap (λ b. cond b text (unwrap_or (option_map moment_text (read_moment text)) text)) stands)

if_present : (P : List ℕ → Type 0) (text : List ℕ) → (is_absent text ≡ false → P text) → IfSome (present text) P
if_present P text holds =
    elim (is_absent text) as (λ b. is_absent text ≡ b → IfSome (cond b None (Some text)) P) [
      | true ↦ λ is. tt
      | false ↦ λ is. holds is
    ] refl

-- an absent moment stays absent
absent_stays : (text : List ℕ) → is_absent (text_in_row Shape.Moment text) ≡ false → is_absent text ≡ false
absent_stays text stands =
    elim (is_absent text) as (λ b. is_absent text ≡ b → is_absent (cond b text (unwrap_or (option_map moment_text (read_moment text)) text)) ≡ false → b ≡ false) [
      | true ↦ λ is other. absurd (false≢true (sym other ∙ is))
      | false ↦ λ is other. refl
    ] refl stands

same_at : {rules : Rules} (kind : Kind) (texts : Row) → Passed rules kind texts → (k : ℕ) → k < row_len kind → (shape : Shape) → (field_at kind k).1 ≡ Content.Shaped shape
    → get_or (printed_at kind texts) k [] ≡ text_in_row shape (sent texts k)
same_at kind texts passed k bound shape is = row_at kind texts passed.len k bound ∙ ap (λ content. row_text content (sent texts k)) is

stands_at : {rules : Rules} (kind : Kind) (texts : Row) → Passed rules kind texts → (k : ℕ) → k < row_len kind → (field_at kind k).2 ≡ Need.Always → is_absent (sent texts k) ≡ false
stands_at {rules} kind texts passed k bound is =
    let P : Need → Type 0 = λ need. is_needed (facts_at rules kind texts) need && is_absent (sent texts k) ≡ false in subst P is (passed.presence k (row-within kind k bound))

shaped_at : {rules : Rules} (kind : Kind) (texts : Row) → Passed rules kind texts → (k : ℕ) → k < row_len kind → (shape : Shape) → (field_at kind k).1 ≡ Content.Shaped shape
    → not (is_absent (sent texts k)) && not (fits_shape shape (sent texts k) && may_be_present (facts_at rules kind texts) (field_at kind k).2) ≡ false
shaped_at {rules} kind texts passed k bound shape is =
    let P : Content → Type 0 = λ content. not (is_absent (sent texts k)) && not (fits_content rules content (sent texts k) && may_be_present (facts_at rules kind texts) (field_at kind k).2) ≡ false in
    subst P is (passed.shape k (row-within kind k bound))

fits_at : {rules : Rules} (kind : Kind) (texts : Row) → Passed rules kind texts → (k : ℕ) → k < row_len kind → (shape : Shape) → (field_at kind k).1 ≡ Content.Shaped shape → is_absent (sent texts k) ≡ false → fits_shape shape (sent texts k) ≡ true
fits_at {rules} kind texts passed k bound shape is stands =
    fit (is_absent (sent texts k)) (fits_shape shape (sent texts k)) (may_be_present (facts_at rules kind texts) (field_at kind k).2) stands (shaped_at kind texts passed k bound shape is)

code_at : {rules : Rules} (kind : Kind) (texts : Row) → Passed rules kind texts → (k : ℕ) → k < row_len kind → (field_at kind k).1 ≡ Content.Shaped Shape.Code → is_absent (sent texts k) ≡ false → IsValid (get_or (printed_at kind texts) k [])
code_at {rules} kind texts passed k bound is stands =
    let P : Content → Type 0 = λ content. list_any has_other_remainder (codes_in content (sent texts k)) ≡ false in
    subst IsValid (sym (same_at kind texts passed k bound Shape.Code is))
    (valid_code (sent texts k) (may_be_present (facts_at rules kind texts) (field_at kind k).2) stands (shaped_at kind texts passed k bound Shape.Code is) (subst P is (passed.digits k (row-within kind k bound))))

code_if_present : {rules : Rules} (kind : Kind) (texts : Row) → Passed rules kind texts → (k : ℕ) → k < row_len kind → (field_at kind k).1 ≡ Content.Shaped Shape.Code → IfSome (present (get_or (printed_at kind texts) k [])) IsValid
code_if_present kind texts passed k bound is =
    if_present IsValid (get_or (printed_at kind texts) k []) (λ stands. code_at kind texts passed k bound is (ap is_absent (sym (same_at kind texts passed k bound Shape.Code is)) ∙ stands))

moment_at : {rules : Rules} (kind : Kind) (texts : Row) → Passed rules kind texts → (k : ℕ) → k < row_len kind → (field_at kind k).1 ≡ Content.Shaped Shape.Moment → is_absent (sent texts k) ≡ false → IsPrinted (get_or (printed_at kind texts) k [])
moment_at {rules} kind texts passed k bound is stands =
    subst IsPrinted (sym (same_at kind texts passed k bound Shape.Moment is))
    (moment_stands (sent texts k) (may_be_present (facts_at rules kind texts) (field_at kind k).2) stands (shaped_at kind texts passed k bound Shape.Moment is))

moment_if_present : {rules : Rules} (kind : Kind) (texts : Row) → Passed rules kind texts → (k : ℕ) → k < row_len kind → (field_at kind k).1 ≡ Content.Shaped Shape.Moment → IfSome (present (get_or (printed_at kind texts) k [])) IsPrinted
moment_if_present kind texts passed k bound is =
    if_present IsPrinted (get_or (printed_at kind texts) k [])
    (λ stands. moment_at kind texts passed k bound is (absent_stays (sent texts k) (ap is_absent (sym (same_at kind texts passed k bound Shape.Moment is)) ∙ stands)))

-- a field that is always needed has a text of its shape
always_code : {rules : Rules} (kind : Kind) (texts : Row) → Passed rules kind texts → (k : ℕ) → k < row_len kind → (field_at kind k).1 ≡ Content.Shaped Shape.Code → (field_at kind k).2 ≡ Need.Always → IsValid (get_or (printed_at kind texts) k [])
always_code kind texts passed k bound is needed = code_at kind texts passed k bound is (stands_at kind texts passed k bound needed)

always_moment : {rules : Rules} (kind : Kind) (texts : Row) → Passed rules kind texts → (k : ℕ) → k < row_len kind → (field_at kind k).1 ≡ Content.Shaped Shape.Moment → (field_at kind k).2 ≡ Need.Always → IsPrinted (get_or (printed_at kind texts) k [])
always_moment kind texts passed k bound is needed = moment_at kind texts passed k bound is (stands_at kind texts passed k bound needed)

always_fits : {rules : Rules} (kind : Kind) (texts : Row) → Passed rules kind texts → (k : ℕ) → k < row_len kind → (shape : Shape) → (field_at kind k).1 ≡ Content.Shaped shape → (field_at kind k).2 ≡ Need.Always → fits_shape shape (sent texts k) ≡ true
always_fits kind texts passed k bound shape is needed = fits_at kind texts passed k bound shape is (stands_at kind texts passed k bound needed)

-- a value of a list, if it is present
listed_if_present : {rules : Rules} {V : Type 0} (kind : Kind) (texts : Row) → Passed rules kind texts → (k : ℕ) → k < row_len kind → (shape : Shape) (value_of : List ℕ → Option V)
    → (field_at kind k).1 ≡ Content.Shaped shape → ((text : List ℕ) → text_in_row shape text ≡ text) → ((text : List ℕ) → fits_shape shape text ≡ true → IsListedText value_of text)
    → IfSome (present (get_or (printed_at kind texts) k [])) (IsListedText value_of)
listed_if_present kind texts passed k bound shape value_of is kept listed =
    let same = same_at kind texts passed k bound shape is ∙ kept (sent texts k) in
    if_present (IsListedText value_of) (get_or (printed_at kind texts) k [])
    (λ stands. subst (IsListedText value_of) (sym same) (listed (sent texts k) (fits_at kind texts passed k bound shape is (ap is_absent (sym same) ∙ stands))))

least : (kind : Kind) → min (row_len kind) (field_count kind) ≡ row_len kind
least Kind.Record = refl
least Kind.Relation = refl
least Kind.Exception = refl

length-printed_at : (kind : Kind) (texts : Row) → length texts ≡ field_count kind → length (printed_at kind texts) ≡ row_len kind
unfolding printed_at
length-printed_at kind texts len =
    length-map (zip (row_fields kind) texts) (λ entry. row_text entry.0.1 entry.1)
    ∙ (length-zip (row_fields kind) texts ∙ rw (length-row_fields kind, len) (least kind))

-- the successors that are named, if there are any
successors_if_present : {rules : Rules} (texts : Row) → Passed rules Kind.Record texts → IfSome (present (get_or (printed_at Kind.Record texts) 20 [])) AreCodes
unfolding fields
successors_if_present {rules} texts passed =
    let r = Kind.Record in
    let sent_one = sent texts 20 in
    let same : get_or (printed_at r texts) 20 [] ≡ sent_one = row_at r texts passed.len 20 (lit< tt) in
    if_present AreCodes (get_or (printed_at r texts) 20 [])
    (λ stands. subst AreCodes (sym same)
    (AreCodes-from_shape rules sent_one
    (fit (is_absent sent_one) (fits_shape (successors_shape rules) sent_one) (may_be_present (facts_at rules r texts) Need.Optional) (ap is_absent (sym same) ∙ stands) (passed.shape 20 (lit< tt)))
    (passed.digits 20 (lit< tt))))

rowed : {rules : Rules} (texts : Row) → Passed rules Kind.Record texts → IsRecordRow (printed_at Kind.Record texts)
unfolding fields
rowed texts passed =
    let r = Kind.Record in
    record {
      places = length-printed_at r texts passed.len;
      lei = always_code r texts passed 0 (lit< tt) refl refl;
      category = subst (IsListedText category_of) (sym (same_at r texts passed 16 (lit< tt) Shape.Category refl)) (always_fits r texts passed 16 (lit< tt) Shape.Category refl refl);
      entity_status = subst (IsListedText entity_status_of) (sym (same_at r texts passed 18 (lit< tt) Shape.EntityStatus refl)) (always_fits r texts passed 18 (lit< tt) Shape.EntityStatus refl refl);
      created = moment_if_present r texts passed 19 (lit< tt) refl;
      successors = successors_if_present texts passed;
      initial = always_moment r texts passed 21 (lit< tt) refl refl;
      updated = always_moment r texts passed 22 (lit< tt) refl refl;
      status = subst (IsListedText record_status_of) (sym (same_at r texts passed 23 (lit< tt) Shape.RecordStatus refl)) (always_fits r texts passed 23 (lit< tt) Shape.RecordStatus refl refl);
      renewal = always_moment r texts passed 24 (lit< tt) refl refl;
      manager = always_code r texts passed 25 (lit< tt) refl refl;
      transfer_to = code_if_present r texts passed 27 (lit< tt) refl;
      event_type = listed_if_present r texts passed 28 (lit< tt) Shape.EventType event_type_of refl (λ text. refl) (λ text fits. fits);
      effective = moment_if_present r texts passed 29 (lit< tt) refl;
      recorded = moment_if_present r texts passed 30 (lit< tt) refl;
      event_status = listed_if_present r texts passed 31 (lit< tt) Shape.EventStatus event_status_of refl (λ text. refl) (λ text fits. fits);
    }

relation_rowed : {rules : Rules} (texts : Row) → Passed rules Kind.Relation texts → IsRelationRow (printed_at Kind.Relation texts)
unfolding relation_fields
relation_rowed texts passed =
    let r = Kind.Relation in
    record {
      places = length-printed_at r texts passed.len;
      start = always_code r texts passed 0 (lit< tt) refl refl;
      kind = subst (IsListedText relation_type_of) (sym (same_at r texts passed 1 (lit< tt) Shape.RelationType refl)) (always_fits r texts passed 1 (lit< tt) Shape.RelationType refl refl);
      end = always_code r texts passed 2 (lit< tt) refl refl;
      status = subst (IsListedText relation_status_of) (sym (same_at r texts passed 3 (lit< tt) Shape.RelationStatus refl)) (always_fits r texts passed 3 (lit< tt) Shape.RelationStatus refl refl);
      started = always_moment r texts passed 4 (lit< tt) refl refl;
      ended = moment_if_present r texts passed 5 (lit< tt) refl;
      initial = always_moment r texts passed 6 (lit< tt) refl refl;
      updated = always_moment r texts passed 7 (lit< tt) refl refl;
      registration = subst (IsListedText relation_registration_of) (sym (same_at r texts passed 8 (lit< tt) Shape.RelationRegistration refl)) (always_fits r texts passed 8 (lit< tt) Shape.RelationRegistration refl refl);
      manager = always_code r texts passed 9 (lit< tt) refl refl;
    }

exception_rowed : {rules : Rules} (texts : Row) → Passed rules Kind.Exception texts → IsExceptionRow (printed_at Kind.Exception texts)
unfolding exception_fields
exception_rowed texts passed =
    let r = Kind.Exception in
    record {
      places = length-printed_at r texts passed.len;
      lei = always_code r texts passed 0 (lit< tt) refl refl;
      category = subst (IsListedText exception_category_of) (sym (same_at r texts passed 1 (lit< tt) Shape.ExceptionCategory refl)) (always_fits r texts passed 1 (lit< tt) Shape.ExceptionCategory refl refl);
      reason = listed_if_present r texts passed 2 (lit< tt) Shape.Reason reason_of refl (λ text. refl) (λ text fits. fits);
    }

rowed_as : {rules : Rules} (kind : Kind) (texts : Row) → Passed rules kind texts → IsRowOfKind kind (printed_at kind texts)
rowed_as Kind.Record = rowed
rowed_as Kind.Relation = relation_rowed
rowed_as Kind.Exception = exception_rowed

-- texts that fail none of the checks by place have passed them
passes : (rules : Rules) (kind : Kind) (texts : Row) → length texts ≡ field_count kind → first_at rules FieldCheck.Presence kind texts ≡ None → first_at rules FieldCheck.Shape kind texts ≡ None → first_at rules FieldCheck.Digits kind texts ≡ None
    → Passed rules kind texts
passes rules kind texts len presence shape digits = record {
  len = len;
  presence = asked_at rules FieldCheck.Presence kind texts len presence;
  shape = asked_at rules FieldCheck.Shape kind texts len shape;
  digits = asked_at rules FieldCheck.Digits kind texts len digits;
}

-- texts that pass the checks are a row
pub IsRowOfKind-printed_at : (rules : Rules) (kind : Kind) (texts : Row) → length texts ≡ field_count kind → first_at rules FieldCheck.Presence kind texts ≡ None → first_at rules FieldCheck.Shape kind texts ≡ None → first_at rules FieldCheck.Digits kind texts ≡ None
    → IsRowOfKind kind (printed_at kind texts)
IsRowOfKind-printed_at rules kind texts len presence shape digits = rowed_as kind texts (passes rules kind texts len presence shape digits)

none_failed : {X Y : Type 0} (a b c d : Option X) (f g h k : X → Y) → option_or (option_map f a) (option_or (option_map g b) (option_or (option_map h c) (option_map k d))) ≡ None
    → (a ≡ None) × (b ≡ None) × (c ≡ None) × (d ≡ None)
none_failed None None None None f g h k is = (refl, refl, refl, refl)
none_failed None None None (Some x) f g h k is = cc
none_failed None None (Some x) d f g h k is = cc
none_failed None (Some x) c d f g h k is = cc
none_failed (Some x) b c d f g h k is = cc

length-texts_of : (kind : Kind) (pairs : List (List ℕ × List ℕ)) → length (texts_by_place kind pairs) ≡ field_count kind
length-texts_of kind pairs = length-map (fields_of kind) (λ field. text_under pairs field.0) ∙ length-fields_of kind

-- an item that passes its checks has texts that pass them by place
passed_of : (rules : Rules) (kind : Kind) (pairs : List (List ℕ × List ℕ)) → failed_check rules kind pairs ≡ None → Passed rules kind (texts_by_place kind pairs)
unfolding failed_check
passed_of rules kind pairs is =
    let none = none_failed (unknown_name rules kind pairs) (missing_field rules kind pairs) (misshapen_field rules kind pairs) (miscoded_field kind pairs) (failed_field 1) (failed_field 2) (failed_field 3) (failed_field 4) is in
    let first = none_unknown rules kind pairs none.0 in
    passes rules kind (texts_by_place kind pairs) (length-texts_of kind pairs)
    (first_at-texts_of rules FieldCheck.Presence kind pairs first ∙ none.1) (first_at-texts_of rules FieldCheck.Shape kind pairs first ∙ none.2) (first_at-texts_of rules FieldCheck.Digits kind pairs first ∙ none.3)

-- an item that passes its checks has the row of an item of its kind
pub IsRowOfKind-row_of : (rules : Rules) (kind : Kind) (pairs : List (List ℕ × List ℕ)) → failed_check rules kind pairs ≡ None → IsRowOfKind kind (row_of kind pairs)
IsRowOfKind-row_of rules kind pairs is =
    subst (IsRowOfKind kind) (printed_at-texts_of kind pairs) (rowed_as kind (texts_by_place kind pairs) (passed_of rules kind pairs is))

-- a record that passes its checks by the first rules names at most one successor
pub one_named : (pairs : List (List ℕ × List ℕ)) → failed_check Rules.First Kind.Record pairs ≡ None → length (successors_in (row_of Kind.Record pairs)) ≤ 1
unfolding fields successors_in
one_named pairs is =
    let r = Kind.Record in
    let texts = texts_by_place r pairs in
    let passed = passed_of Rules.First r pairs is in
    let text = sent texts 20 in
    let same : get_or (row_of r pairs) 20 [] ≡ text = ap (λ row. get_or row 20 []) (sym (printed_at-texts_of r pairs)) ∙ row_at r texts passed.len 20 (lit< tt) in
    subst (λ t. length (option_map_or between_spaces (present t) []) ≤ 1) (sym same)
    (elim (is_absent text) as (λ b. is_absent text ≡ b → length (option_map_or between_spaces (cond b None (Some text)) []) ≤ 1) [
      | true ↦ λ absent. omega arith
      | false ↦ λ stands.
          subst (λ (named : List (List ℕ)). length named ≤ 1)
          (sym (one_code text (fit (is_absent text) (is_code text) (may_be_present (facts_at Rules.First r texts) Need.Optional) stands (passed.shape 20 (lit< tt)))))
          (omega arith)
    ] refl)

-- a record that passes its checks by rules without the fields of an event has none of them
pub no_event : (rules : Rules)
    → is_field rules Kind.Record (codes "Entity.Event.1.Type") ≡ false → is_field rules Kind.Record (codes "Entity.Event.1.EffectiveDate") ≡ false
    → is_field rules Kind.Record (codes "Entity.Event.1.RecordedDate") ≡ false → is_field rules Kind.Record (codes "Entity.Event.1.Status") ≡ false
    → (pairs : List (List ℕ × List ℕ)) → failed_check rules Kind.Record pairs ≡ None → has_no_event (row_of Kind.Record pairs) ≡ true
unfolding fields failed_check row_of
no_event rules of_type of_effective of_recorded of_status pairs is =
    let r = Kind.Record in
    let none = none_failed (unknown_name rules r pairs) (missing_field rules r pairs) (misshapen_field rules r pairs) (miscoded_field r pairs) (failed_field 1) (failed_field 2) (failed_field 3) (failed_field 4) is in
    let known = none_unknown rules r pairs none.0 in
    rw (
      not_sent rules r (codes "Entity.Event.1.Type") pairs of_type known,
      not_sent rules r (codes "Entity.Event.1.EffectiveDate") pairs of_effective known,
      not_sent rules r (codes "Entity.Event.1.RecordedDate") pairs of_recorded known,
      not_sent rules r (codes "Entity.Event.1.Status") pairs of_status known,
    ) refl

withdraws_at-texts_of : (rules : Rules) (kind : Kind) (pairs : List (List ℕ × List ℕ)) → first_unknown rules kind pairs ≡ None → withdraws_at kind (texts_by_place kind pairs) ≡ says_withdraw pairs
unfolding fields relation_fields exception_fields
withdraws_at-texts_of rules Kind.Record pairs known = never_withdrawn rules Kind.Record pairs (no_action rules) known
withdraws_at-texts_of rules Kind.Relation pairs known = never_withdrawn rules Kind.Relation pairs (no_action_either rules) known
withdraws_at-texts_of rules Kind.Exception pairs known = refl

readied_same : (rules : Rules) (kind : Kind) (pairs : List (List ℕ × List ℕ)) (failed : Option FailedCheck) → first_unknown rules kind pairs ≡ None → readied_by kind (texts_by_place kind pairs) failed ≡ readied_as kind pairs failed
readied_same rules kind pairs None known =
    ap (λ row. Readied.Good (item_of kind (withdraws_at kind (texts_by_place kind pairs)) row)) (printed_at-texts_of kind pairs)
    ∙ ap (λ withdraws. Readied.Good (item_of kind withdraws (row_of kind pairs))) (withdraws_at-texts_of rules kind pairs known)
readied_same rules kind pairs (Some check) known = refl

-- the checks by place have the same result as the item's checks
pub readied_as-by_place : {E : Type 0} (rules : Rules) (kind : Kind) (pairs : List (List ℕ × List ℕ)) (texts : Row) (r : Result Readied E) → unknown_name rules kind pairs ≡ None → texts ≡ texts_by_place kind pairs
    → IfOk r (λ item. item ≡ readied_by kind texts (failed_at rules kind texts)) → IfOk r (λ item. item ≡ readied_as kind pairs (failed_check rules kind pairs))
readied_as-by_place rules kind pairs texts (Ok item) known same is =
    is ∙ (ap (λ t. readied_by kind t (failed_at rules kind t)) same
    ∙ (readied_same rules kind pairs (failed_at rules kind (texts_by_place kind pairs)) (none_unknown rules kind pairs known) ∙ ap (readied_as kind pairs) (sym (failed_at-texts_of rules kind pairs known))))
readied_as-by_place rules kind pairs texts (Err e) known same is = tt

-- an unknown name is reported before anything else
pub bad_by_name : {E : Type 0} (rules : Rules) (kind : Kind) (pairs : List (List ℕ × List ℕ)) (name : List ℕ) (r : Result Readied E) → unknown_name rules kind pairs ≡ Some name
    → IfOk r (λ item. item ≡ Readied.Bad (failed_field 1 name)) → IfOk r (λ item. item ≡ readied_as kind pairs (failed_check rules kind pairs))
unfolding failed_check
bad_by_name rules kind pairs name (Ok item) unknown is = rw unknown is
bad_by_name rules kind pairs name (Err e) unknown is = tt
