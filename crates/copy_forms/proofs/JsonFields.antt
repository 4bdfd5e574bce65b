-- A record is read back from its text, and only from this.
use Rattle.std.proofs.Common.{◌≡◌, ℕ, suc, Bool, true, false, cond, not, ◌&&◌, List, [], ◌∷◌, ◌++◌, Option, Some, None, option_map, option_and_then, unwrap_or, refl, sym, ap, ◌∙◌, subst, arith, append_assoc, length, drop}
use Rattle.std.specs.List.{zip, list_all}
use Rattle.std.specs.Str.{bytes_eq, is_utf8}
use Rattle.std.proofs.lemmas.Bool.{true≢false}
use Rattle.std.proofs.lemmas.List.{append_cancel_left}
use Rattle.std.proofs.lemmas.Option.{none-some}
use Rattle.std.proofs.lemmas.Str.{IsUtf8-nil, is_utf8-from_IsUtf8}
use Rattle.std.proofs.lemmas.Slice.Eq.{bytes_eq-Decides}
use Rattle.json.specs.Print.{escape, quoted}
use Rattle.serde_json.specs.Written.{comma_if, members_text}
use Rattle.lei_code.specs.Texts.{Text}
use Rattle.lei_records.specs.Spelled.{is_absent}
use Rattle.copy_forms.specs.Json.{JsonField, members_of}
use Rattle.copy_forms.specs.JsonTexts.{json_fields_text, lead}
use Rattle.copy_forms.specs.JsonReading.{FieldRead, after_front, field_after, fields_from, json_field_from, json_text_from, present_field, string_from, utf8_text}
use Rattle.copy_forms.proofs.JsonStrings.{after_front-again, after_front-taken, string-again, string-taken}

-- ---- the text of a record, field by field

-- a field followed by others
lead-text : (later : Bool) (name text others : List ℕ)
    → comma_if later ++ (quoted name ++ 58 ∷ (quoted text ++ others)) ≡ lead later name ++ (escape text ++ 34 ∷ others)
lead-text later name text others =
    ap (λ l. comma_if later ++ (quoted name ++ 58 ∷ 34 ∷ l)) (append_assoc (escape text) (34 ∷ []) others)
    ∙ ap (λ l. comma_if later ++ l) (sym (append_assoc (quoted name) (58 ∷ 34 ∷ []) (escape text ++ 34 ∷ others)))
    ∙ sym (append_assoc (comma_if later) (quoted name ++ 58 ∷ 34 ∷ []) (escape text ++ 34 ∷ others))

pub fields-text : (later : Bool) (fields : List JsonField) → members_text later (members_of fields) ≡ json_fields_text later fields
fields-text later [] = refl
fields-text later (field ∷ fields) = go (is_absent field.1) refl (fields-text later fields) (fields-text true fields)
  where
    go : (b : Bool) → is_absent field.1 ≡ b → members_text later (members_of fields) ≡ json_fields_text later fields → members_text true (members_of fields) ≡ json_fields_text true fields
        → members_text later (members_of (field ∷ fields)) ≡ json_fields_text later (field ∷ fields)
    go true absent same behind = rw absent same
    go false absent same behind =
        rw absent (lead-text later field.0 field.1 (members_text true (members_of fields)) ∙ ap (λ l. lead later field.0 ++ (escape field.1 ++ 34 ∷ l)) behind)

-- ---- texts that a record may have

utf8_text-is : (text : Text) → is_absent text ≡ false → is_utf8 text ≡ true → utf8_text text ≡ Some text
utf8_text-is text stands utf8 = rw (stands, utf8)

-- what `utf8_text` says of a text
pub record Kept (text read : Text) : Type 0 where
  pub stands : is_absent text ≡ false
  pub utf8 : is_utf8 text ≡ true
  pub same : read ≡ text

pub utf8_text-taken : (text read : Text) → utf8_text text ≡ Some read → Kept text read
utf8_text-taken text read is = go (is_absent text) refl (is_utf8 text) refl is
  where
    go : (a : Bool) → is_absent text ≡ a → (u : Bool) → is_utf8 text ≡ u → cond a None (cond u (Some text) None) ≡ Some read → Kept text read
    go true absent u utf8 found = cc
    go false absent false utf8 found = cc
    go false absent true utf8 found = record { stands = absent; utf8 = utf8; same = sym (ap (λ o. unwrap_or o text) found) }

pub text-again : (text rest : List ℕ) → is_absent text ≡ false → is_utf8 text ≡ true → json_text_from (escape text ++ 34 ∷ rest) ≡ Some (text, rest)
unfolding json_text_from
text-again text rest stands utf8 =
    ap (option_and_then (λ read. option_map (λ t. (t, read.1)) (utf8_text read.0))) (string-again text rest) ∙ ap (option_map (λ t. (t, rest))) (utf8_text-is text stands utf8)

pub record TextTaken (bytes text rest : List ℕ) : Type 0 where
  pub is : bytes ≡ escape text ++ 34 ∷ rest
  pub stands : is_absent text ≡ false
  pub utf8 : is_utf8 text ≡ true

pub text-taken : (bytes text rest : List ℕ) → json_text_from bytes ≡ Some (text, rest) → TextTaken bytes text rest
unfolding json_text_from
text-taken bytes text rest is = go (string_from bytes) refl is
  where
    inner : (found left : List ℕ) (read : Option Text) → string_from bytes ≡ Some (found, left) → utf8_text found ≡ read
        → option_map {U = Text × List ℕ} (λ t. (t, left)) read ≡ Some (text, rest) → TextTaken bytes text rest
    inner found left None string keeps same = cc
    inner found left (Some read) string keeps same =
        let facts = utf8_text-taken found read keeps in
        let is_text : found ≡ text = sym facts.same ∙ ap (λ o. unwrap_or (option_map (λ p. p.0) o) read) same in
        let is_rest : left ≡ rest = ap (λ o. unwrap_or (option_map (λ p. p.1) o) left) same in
        record {
          is = string-taken bytes found left string ∙ ap (λ t. escape t ++ 34 ∷ left) is_text ∙ ap (λ r. escape text ++ 34 ∷ r) is_rest;
          stands = ap is_absent (sym is_text) ∙ facts.stands;
          utf8 = ap is_utf8 (sym is_text) ∙ facts.utf8;
        }

    go : (found : Option (Text × List ℕ)) → string_from bytes ≡ found
        → option_and_then {U = Text × List ℕ} (λ read. option_map (λ t. (t, read.1)) (utf8_text read.0)) found ≡ Some (text, rest) → TextTaken bytes text rest
    go None string same = cc
    go (Some read) string same = inner read.0 read.1 (utf8_text read.0) string refl same

-- ---- names that differ

-- a name in the form that it has before a text
name_before : List ℕ → List ℕ → List ℕ
name_before name rest = 34 ∷ (escape name ++ 34 ∷ 58 ∷ 34 ∷ rest)

lead-before : (later : Bool) (name rest : List ℕ) → lead later name ++ rest ≡ comma_if later ++ name_before name rest
unfolding name_before
lead-before later name rest =
    append_assoc (comma_if later) (quoted name ++ 58 ∷ 34 ∷ []) rest
    ∙ ap (λ l. comma_if later ++ l) (append_assoc (quoted name) (58 ∷ 34 ∷ []) rest ∙ ap (λ l. 34 ∷ l) (append_assoc (escape name) (34 ∷ []) (58 ∷ 34 ∷ rest)))

name-drop : (name rest : List ℕ) → drop 1 (name_before name rest) ≡ escape name ++ 34 ∷ 58 ∷ 34 ∷ rest
unfolding name_before
name-drop name rest = refl

-- the lead of one name isn't read as that of another
lead-apart : (later : Bool) (name other rest : List ℕ) → bytes_eq name other ≡ false → after_front (lead later name) (lead later other ++ rest) ≡ None
lead-apart later name other rest apart = go (after_front (lead later name) (lead later other ++ rest)) refl
  where
    same : (left : List ℕ) → lead later other ++ rest ≡ lead later name ++ left → ⊥
    same left is =
        let others : comma_if later ++ name_before other rest ≡ comma_if later ++ name_before name left = sym (lead-before later other rest) ∙ is ∙ lead-before later name left in
        let strings : escape other ++ 34 ∷ 58 ∷ 34 ∷ rest ≡ escape name ++ 34 ∷ 58 ∷ 34 ∷ left =
        sym (name-drop other rest) ∙ ap (drop 1) (append_cancel_left (comma_if later) (name_before other rest) (name_before name left) others) ∙ name-drop name left in
        let reads : Some (other, 58 ∷ 34 ∷ rest) ≡ Some (name, 58 ∷ 34 ∷ left) = sym (string-again other (58 ∷ 34 ∷ rest)) ∙ ap string_from strings ∙ string-again name (58 ∷ 34 ∷ left) in
        let names : other ≡ name = ap (λ o. unwrap_or (option_map (λ p. p.0) o) other) reads in
        absurd (true≢false (sym ((bytes_eq-Decides name other).1 (sym names)) ∙ apart))

    go : (found : Option (List ℕ)) → after_front (lead later name) (lead later other ++ rest) ≡ found → found ≡ None
    go None is = refl
    go (Some left) is = absurd (same left (after_front-taken (lead later name) (lead later other ++ rest) left is))

-- the name differs from all of these
unfoldable pub is_apart : Text → List Text → Bool
is_apart name [] = true
is_apart name (other ∷ others) = not (bytes_eq name other) && is_apart name others

-- no name is in the list twice
unfoldable pub are_apart : List Text → Bool
are_apart [] = true
are_apart (name ∷ names) = is_apart name names && are_apart names

and_parts : (a b : Bool) → a && b ≡ true → (a ≡ true) × (b ≡ true)
and_parts true b is = (refl, is)
and_parts false b is = absurd (true≢false (sym is))

not-true : (b : Bool) → not b ≡ true → b ≡ false
not-true true is = absurd (true≢false (sym is))
not-true false is = refl

-- fields with other names don't start with the lead of a name
lead-missed : (later : Bool) (name : Text) (names texts : List Text) (rest : List ℕ) → is_apart name names ≡ true
    → after_front (lead later name) (json_fields_text later (zip names texts) ++ rest) ≡ None
unfolding is_apart
lead-missed true name [] texts rest apart = refl
lead-missed false name [] texts rest apart = refl
lead-missed true name (other ∷ names) [] rest apart = refl
lead-missed false name (other ∷ names) [] rest apart = refl
lead-missed later name (other ∷ names) (text ∷ texts) rest apart = go (is_absent text) refl (lead-missed later name names texts rest (and_parts (not (bytes_eq name other)) (is_apart name names) apart).1)
  where
    go : (b : Bool) → is_absent text ≡ b → after_front (lead later name) (json_fields_text later (zip names texts) ++ rest) ≡ None
        → after_front (lead later name) (json_fields_text later (zip (other ∷ names) (text ∷ texts)) ++ rest) ≡ None
    go true absent others = rw absent others
    go false absent others =
        let differs : bytes_eq name other ≡ false = not-true (bytes_eq name other) (and_parts (not (bytes_eq name other)) (is_apart name names) apart).0 in
        rw absent (
        ap (after_front (lead later name)) (append_assoc (lead later other) (escape text ++ 34 ∷ json_fields_text true (zip names texts)) rest)
        ∙ lead-apart later name other ((escape text ++ 34 ∷ json_fields_text true (zip names texts)) ++ rest) differs
        )

-- ---- the fields of a record

field-absent : (name : Text) (later : Bool) (bytes : List ℕ) → after_front (lead later name) bytes ≡ None
    → json_field_from name later bytes ≡ Some (record { text = []; later = later; rest = bytes })
unfolding json_field_from
field-absent name later bytes missed = ap (field_after later bytes) missed

field-present : (name text : Text) (later : Bool) (rest : List ℕ) → is_absent text ≡ false → is_utf8 text ≡ true
    → json_field_from name later (lead later name ++ (escape text ++ 34 ∷ rest)) ≡ Some (record { text = text; later = true; rest = rest })
unfolding json_field_from
field-present name text later rest stands utf8 =
    let bytes = lead later name ++ (escape text ++ 34 ∷ rest) in
    ap (field_after later bytes) (after_front-again (lead later name) (escape text ++ 34 ∷ rest)) ∙ ap present_field (text-again text rest stands utf8)

absent-nil : (text : Text) → is_absent text ≡ true → text ≡ []
absent-nil [] is = refl
absent-nil (x ∷ text) is = grind arith

-- the fields after one that was read
pub fields_behind : List Text → Option FieldRead → Option (List Text × List ℕ)
fields_behind names found = option_and_then (λ field. option_map (λ read. (field.text ∷ read.0, read.1)) (fields_from names field.later field.rest)) found

pub fields-cons : (name : Text) (names : List Text) (later : Bool) (bytes : List ℕ) → fields_from (name ∷ names) later bytes ≡ fields_behind names (json_field_from name later bytes)
unfolding fields_from fields_behind
fields-cons name names later bytes = refl

pub behind-none : (names : List Text) → fields_behind names None ≡ None
unfolding fields_behind
behind-none names = refl

pub behind-some : (names : List Text) (field : FieldRead) → fields_behind names (Some field) ≡ option_map (λ read. (field.text ∷ read.0, read.1)) (fields_from names field.later field.rest)
unfolding fields_behind
behind-some names field = refl

fields-end : (later : Bool) (rest : List ℕ) → fields_from [] later (125 ∷ rest) ≡ Some ([], rest)
unfolding fields_from
fields-end later rest = refl

pub fields-nil : (later : Bool) (bytes : List ℕ) → fields_from [] later bytes ≡ option_map (λ rest. ([], rest)) (after_front (125 ∷ []) bytes)
unfolding fields_from
fields-nil later bytes = refl

-- what was printed is read back
pub fields-again : (names texts : List Text) (later : Bool) (rest : List ℕ) → are_apart names ≡ true → length texts ≡ length names → list_all is_utf8 texts ≡ true
    → fields_from names later (json_fields_text later (zip names texts) ++ rest) ≡ Some (texts, rest)
unfolding are_apart
fields-again [] [] later rest apart long utf8 = fields-end later rest
fields-again [] (text ∷ texts) later rest apart long utf8 = absurd (omega (arith, long))
fields-again (name ∷ names) [] later rest apart long utf8 = absurd (omega (arith, long))
fields-again (name ∷ names) (text ∷ texts) later rest apart long utf8 =
    let parts = and_parts (is_apart name names) (are_apart names) apart in
    let reads = and_parts (is_utf8 text) (list_all is_utf8 texts) utf8 in
    let shorter : length texts ≡ length names = omega (arith, long) in
    go (is_absent text) refl parts.0 reads.0 (fields-again names texts later rest parts.1 shorter reads.1) (fields-again names texts true rest parts.1 shorter reads.1)
  where
    go : (b : Bool) → is_absent text ≡ b → is_apart name names ≡ true → is_utf8 text ≡ true
        → fields_from names later (json_fields_text later (zip names texts) ++ rest) ≡ Some (texts, rest)
        → fields_from names true (json_fields_text true (zip names texts) ++ rest) ≡ Some (texts, rest)
        → fields_from (name ∷ names) later (json_fields_text later (zip (name ∷ names) (text ∷ texts)) ++ rest) ≡ Some (text ∷ texts, rest)
    go true absent apart_here utf8_here same behind =
        let bytes = json_fields_text later (zip names texts) ++ rest in
        let field = field-absent name later bytes (lead-missed later name names texts rest apart_here) in
        let read : fields_from (name ∷ names) later bytes ≡ Some (text ∷ texts, rest) =
        fields-cons name names later bytes ∙ ap (fields_behind names) field ∙ behind-some names (record { text = []; later = later; rest = bytes })
        ∙ ap (option_map (λ read. ([] ∷ read.0, read.1))) same ∙ ap (λ t. Some (t ∷ texts, rest)) (sym (absent-nil text absent)) in
        rw absent read
    go false stands apart_here utf8_here same behind =
        let others = json_fields_text true (zip names texts) in
        let bytes = lead later name ++ (escape text ++ 34 ∷ (others ++ rest)) in
        let whole : (lead later name ++ (escape text ++ 34 ∷ others)) ++ rest ≡ bytes =
        append_assoc (lead later name) (escape text ++ 34 ∷ others) rest ∙ ap (λ l. lead later name ++ l) (append_assoc (escape text) (34 ∷ others) rest) in
        let field = field-present name text later (others ++ rest) stands utf8_here in
        let read : fields_from (name ∷ names) later bytes ≡ Some (text ∷ texts, rest) =
        fields-cons name names later bytes ∙ ap (fields_behind names) field ∙ behind-some names (record { text = text; later = true; rest = others ++ rest })
        ∙ ap (option_map (λ read. (text ∷ read.0, read.1))) behind in
        rw stands (ap (fields_from (name ∷ names) later) whole ∙ read)

-- what is read was printed
pub record FieldTaken (name : Text) (later : Bool) (bytes : List ℕ) (field : FieldRead) : Type 0 where
  pub is : (fields : List JsonField) (rest : List ℕ) → field.rest ≡ json_fields_text field.later fields ++ rest → bytes ≡ json_fields_text later ((name, field.text) ∷ fields) ++ rest
  pub utf8 : is_utf8 field.text ≡ true

pub utf8-nil : is_utf8 [] ≡ true
utf8-nil = is_utf8-from_IsUtf8 [] IsUtf8-nil

pub field-taken : (name : Text) (later : Bool) (bytes : List ℕ) (field : FieldRead) → json_field_from name later bytes ≡ Some field → FieldTaken name later bytes field
unfolding json_field_from
field-taken name later bytes field is = go (after_front (lead later name) bytes) refl is
  where
    of : (read : FieldRead) → read ≡ field → FieldTaken name later bytes read → FieldTaken name later bytes field
    of read same facts = subst (FieldTaken name later bytes) same facts

    present : (behind : List ℕ) (found : Option (Text × List ℕ)) → after_front (lead later name) bytes ≡ Some behind → json_text_from behind ≡ found
        → present_field found ≡ Some field → FieldTaken name later bytes field
    present behind None front text same = cc
    present behind (Some read) front text same =
        let taken = text-taken behind read.0 read.1 text in
        let given : FieldRead = record { text = read.0; later = true; rest = read.1 } in
        let whole = after_front-taken (lead later name) bytes behind front in
        of given (ap (λ o. unwrap_or o given) same) (record {
          is = λ fields rest others. rw taken.stands (
              whole ∙ ap (λ l. lead later name ++ l) (taken.is ∙ ap (λ l. escape read.0 ++ 34 ∷ l) others ∙ sym (append_assoc (escape read.0) (34 ∷ json_fields_text true fields) rest))
              ∙ sym (append_assoc (lead later name) (escape read.0 ++ 34 ∷ json_fields_text true fields) rest)
              );
          utf8 = taken.utf8;
        })

    go : (found : Option (List ℕ)) → after_front (lead later name) bytes ≡ found → field_after later bytes found ≡ Some field → FieldTaken name later bytes field
    go None front same =
        let given : FieldRead = record { text = []; later = later; rest = bytes } in
        of given (ap (λ o. unwrap_or o given) same) (record { is = λ fields rest others. others; utf8 = utf8-nil })
    go (Some behind) front same = present behind (json_text_from behind) front refl same

pub record FieldsTaken (names : List Text) (later : Bool) (bytes : List ℕ) (texts : List Text) (rest : List ℕ) : Type 0 where
  pub is : bytes ≡ json_fields_text later (zip names texts) ++ rest
  pub long : length texts ≡ length names
  pub utf8 : list_all is_utf8 texts ≡ true

pub fields-taken : (names : List Text) (later : Bool) (bytes : List ℕ) (texts : List Text) (rest : List ℕ) → fields_from names later bytes ≡ Some (texts, rest) → FieldsTaken names later bytes texts rest
fields-taken [] later bytes texts rest is = go (after_front (125 ∷ []) bytes) refl (sym (fields-nil later bytes) ∙ is)
  where
    go : (found : Option (List ℕ)) → after_front (125 ∷ []) bytes ≡ found → option_map {U = List Text × List ℕ} (λ r. ([], r)) found ≡ Some (texts, rest) → FieldsTaken [] later bytes texts rest
    go None front same = cc
    go (Some left) front same =
        let is_texts : [] ≡ texts = ap (λ o. unwrap_or (option_map (λ p. p.0) o) []) same in
        let is_rest : left ≡ rest = ap (λ o. unwrap_or (option_map (λ p. p.1) o) left) same in
        let whole : bytes ≡ 125 ∷ rest = after_front-taken (125 ∷ []) bytes left front ∙ ap (λ r. 125 ∷ r) is_rest in
        let P : List Text → Type 0 = λ t. FieldsTaken [] later bytes t rest in
        subst P is_texts (record { is = whole; long = refl; utf8 = refl })
fields-taken (name ∷ names) later bytes texts rest is =
    go (json_field_from name later bytes) refl (sym (fields-cons name names later bytes) ∙ is) (fields-taken names)
  where
    others : (field : FieldRead) (found : Option (List Text × List ℕ)) → json_field_from name later bytes ≡ Some field → fields_from names field.later field.rest ≡ found
        → option_map {U = List Text × List ℕ} (λ read. (field.text ∷ read.0, read.1)) found ≡ Some (texts, rest)
        → ((l : Bool) (b : List ℕ) (t : List Text) (r : List ℕ) → fields_from names l b ≡ Some (t, r) → FieldsTaken names l b t r)
        → FieldsTaken (name ∷ names) later bytes texts rest
    others field None here behind same below = cc
    others field (Some read) here behind same below =
        let facts = field-taken name later bytes field here in
        let rest_facts = below field.later field.rest read.0 read.1 behind in
        let is_texts : field.text ∷ read.0 ≡ texts = ap (λ o. unwrap_or (option_map (λ p. p.0) o) []) same in
        let is_rest : read.1 ≡ rest = ap (λ o. unwrap_or (option_map (λ p. p.1) o) []) same in
        let P : List Text → Type 0 = λ t. FieldsTaken (name ∷ names) later bytes t rest in
        subst P is_texts (record {
          is = facts.is (zip names read.0) rest (rest_facts.is ∙ ap (λ r. json_fields_text field.later (zip names read.0) ++ r) is_rest);
          long = ap suc rest_facts.long;
          utf8 = rw facts.utf8 rest_facts.utf8;
        })

    go : (found : Option FieldRead) → json_field_from name later bytes ≡ found → fields_behind names found ≡ Some (texts, rest)
        → ((l : Bool) (b : List ℕ) (t : List Text) (r : List ℕ) → fields_from names l b ≡ Some (t, r) → FieldsTaken names l b t r)
        → FieldsTaken (name ∷ names) later bytes texts rest
    go None here same below = absurd (none-some (texts, rest) (sym (behind-none names) ∙ same))
    go (Some field) here same below = others field (fields_from names field.later field.rest) here refl (sym (behind-some names field) ∙ same) below
