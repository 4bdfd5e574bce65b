-- The steps of the functions that read records.
use Rattle.std.proofs.Common.{◌≡◌, ℕ, ◌+◌, ◌<◌, ◌≤◌, Bool, true, false, List, [], ◌∷◌, ◌++◌, Option, Some, None, Result, Ok, Err, option_map, option_and_then, refl, sym, ap, ◌∙◌, append_assoc, length, get_or, take, drop, map}
use Rattle.std.specs.Prelude.{IfOk}
use Rattle.std.specs.Str.{IsUtf8, is_utf8}
use Rattle.std.proofs.lemmas.Str.{IsUtf8-from_is_utf8}
use Rattle.std.proofs.lemmas.List.{append-nil, map-append, take_all, take_more}
use Rattle.json.specs.Print.{print, print_from, quoted}
use Rattle.json.specs.Token.{Token, key}
use Rattle.lei_code.specs.Texts.{Text}
use Rattle.lei_records.specs.Spelled.{is_absent}
use Rattle.copy_csv.specs.declared.faults.FormFault.{FormFault}
use Rattle.copy_csv.specs.declared.faults.FormFault.TheVariants as faults
use Rattle.copy_forms.specs.JsonTexts.{lead}
use Rattle.copy_forms.specs.JsonReading.{Added, JsonFails, JsonGives, FieldRead, after_front, field_after, json_field_from, fields_from, is_escaped, utf8_text, string_from, json_text_from}
use Rattle.copy_forms.proofs.JsonStrings.{string-end, string-plain, with_text-none}
use Rattle.copy_forms.proofs.JsonFields.{behind-none, behind-some, fields-cons, fields-nil, fields_behind}

-- if reading a part fails, reading the whole fails
pub fails-through : {X Y : Type 0} (fault : FormFault) (part : Option X) (whole : Option Y) → (part ≡ None → whole ≡ None) → JsonFails fault part → JsonFails fault whole
fails-through faults.NotRead part whole step is = step is
fails-through faults.NoMemory part whole step is = tt

-- ---- texts

pub utf8_text-some : (text : Text) → is_absent text ≡ false → is_utf8 text ≡ true → utf8_text text ≡ Some text
utf8_text-some text stands utf8 = rw (stands, utf8)

pub utf8_text-none : (text : Text) → is_absent text ≡ false → is_utf8 text ≡ false → utf8_text text ≡ None
utf8_text-none text stands utf8 = rw (stands, utf8)

pub not-utf8 : (text : Text) → is_absent text ≡ false → (IsUtf8 text → ⊥) → utf8_text text ≡ None
not-utf8 text stands not_utf8 = go (is_utf8 text) refl
  where
    go : (b : Bool) → is_utf8 text ≡ b → utf8_text text ≡ None
    go true is = absurd (not_utf8 (IsUtf8-from_is_utf8 text is))
    go false is = utf8_text-none text stands is

pub text-by : (bytes text rest : List ℕ) → string_from bytes ≡ Some (text, rest) → json_text_from bytes ≡ option_map (λ t. (t, rest)) (utf8_text text)
unfolding json_text_from
text-by bytes text rest is = ap (option_and_then (λ read. option_map (λ t. (t, read.1)) (utf8_text read.0))) is

pub text-none : (bytes : List ℕ) → string_from bytes ≡ None → json_text_from bytes ≡ None
unfolding json_text_from
text-none bytes is = ap (option_and_then (λ read. option_map (λ t. (t, read.1)) (utf8_text read.0))) is

-- a text without escapes
pub plain-text : (bytes front stop rest : List ℕ) (n : ℕ) → n ≤ length bytes → ((k : ℕ) → k < n → is_escaped (get_or bytes k 0) ≡ false)
    → front ≡ take n bytes → stop ≡ drop n bytes → after_front (34 ∷ []) stop ≡ Some rest → string_from bytes ≡ Some (front, rest)
plain-text bytes front stop rest n fits each is_front behind quote =
    let joined = string-plain [] front stop bytes n (string_from bytes) (with_text-none (string_from bytes)) fits each is_front behind in
    string-end front stop rest (string_from bytes) joined quote

pub text-fails : (fault : FormFault) (bytes text rest : List ℕ) → string_from bytes ≡ Some (text, rest) → JsonFails fault (utf8_text text) → JsonFails fault (json_text_from bytes)
text-fails fault bytes text rest string fails = fails-through fault (utf8_text text) (json_text_from bytes) (λ none. text-by bytes text rest string ∙ ap (option_map (λ t. (t, rest))) none) fails

pub text-some : (bytes text rest read : List ℕ) → string_from bytes ≡ Some (text, rest) → utf8_text text ≡ Some read → json_text_from bytes ≡ Some (read, rest)
text-some bytes text rest read string keeps = text-by bytes text rest string ∙ ap (option_map (λ t. (t, rest))) keeps

-- ---- fields

-- texts that were read so far, followed by those that are read next
abbrev pub with_texts : List Text → Option (List Text × List ℕ) → Option (List Text × List ℕ)
with_texts front found = option_map (λ read. (front ++ read.0, read.1)) found

pub with_texts-none : (found : Option (List Text × List ℕ)) → with_texts [] found ≡ found
with_texts-none None = refl
with_texts-none (Some read) = refl

with_texts-more : (front : List Text) (text : Text) (found : Option (List Text × List ℕ))
    → with_texts (front ++ text ∷ []) found ≡ with_texts front (option_map (λ read. (text ∷ read.0, read.1)) found)
with_texts-more front text None = refl
with_texts-more front text (Some read) = ap (λ t. Some (t, read.1)) (append_assoc front (text ∷ []) read.0)

-- a field that is read after its lead
field-by : (name : Text) (later : Bool) (front bytes : List ℕ) → front ≡ lead later name → json_field_from name later bytes ≡ field_after later bytes (after_front front bytes)
unfolding json_field_from
field-by name later front bytes is = ap (λ l. field_after later bytes (after_front l bytes)) (sym is)

pub fields-step : (names : List Text) (name : Text) (texts new : List Text) (later : Bool) (front bytes : List ℕ) (field : FieldRead) (all : Option (List Text × List ℕ))
    → with_texts texts (fields_from (name ∷ names) later bytes) ≡ all → front ≡ lead later name → field_after later bytes (after_front front bytes) ≡ Some field
    → Added texts new field.text → with_texts new (fields_from names field.later field.rest) ≡ all
fields-step names name texts new later front bytes field all so_far is reads added =
    let here : json_field_from name later bytes ≡ Some field = field-by name later front bytes is ∙ reads in
    let behind : fields_from (name ∷ names) later bytes ≡ option_map (λ read. (field.text ∷ read.0, read.1)) (fields_from names field.later field.rest) =
    fields-cons name names later bytes ∙ ap (fields_behind names) here ∙ behind-some names field in
    ap (λ t. with_texts t (fields_from names field.later field.rest)) added.is ∙ with_texts-more texts field.text (fields_from names field.later field.rest)
    ∙ ap (with_texts texts) (sym behind) ∙ so_far

pub fields-failed : (names : List Text) (name : Text) (texts : List Text) (later : Bool) (front bytes : List ℕ) (all : Option (List Text × List ℕ))
    → with_texts texts (fields_from (name ∷ names) later bytes) ≡ all → front ≡ lead later name → field_after later bytes (after_front front bytes) ≡ None → all ≡ None
fields-failed names name texts later front bytes all so_far is reads =
    let here : json_field_from name later bytes ≡ None = field-by name later front bytes is ∙ reads in
    sym so_far ∙ ap (with_texts texts) (fields-cons name names later bytes ∙ ap (fields_behind names) here ∙ behind-none names)

pub fields-done : (texts : List Text) (later : Bool) (bytes : List ℕ) (found : Option (List ℕ)) (all : Option (List Text × List ℕ))
    → with_texts texts (fields_from [] later bytes) ≡ all → after_front (125 ∷ []) bytes ≡ found → all ≡ option_map (λ rest. (texts, rest)) found
fields-done texts later bytes found all so_far is = sym so_far ∙ ap (with_texts texts) (fields-nil later bytes ∙ ap (option_map (λ rest. ([], rest))) is) ∙ go found
  where
    go : (f : Option (List ℕ)) → with_texts texts (option_map (λ rest. ([], rest)) f) ≡ option_map (λ rest. (texts, rest)) f
    go None = refl
    go (Some rest) = ap (λ t. Some (t, rest)) (append-nil texts)

-- ---- leads

pub lead-made : (name out : List ℕ) (tokens : List Token) (before : List ℕ) → before ≡ 44 ∷ [] → tokens ≡ key name ∷ [] → out ≡ before ++ print tokens → out ++ 34 ∷ [] ≡ lead true name
unfolding print_from
lead-made name out tokens before comma is printed =
    let made : out ≡ 44 ∷ ((quoted name ++ 58 ∷ []) ++ []) = printed ∙ ap (λ b. b ++ print tokens) comma ∙ ap (λ t. 44 ∷ print t) is in
    ap (λ l. l ++ 34 ∷ []) (made ∙ ap (λ l. 44 ∷ l) (append-nil (quoted name ++ 58 ∷ []))) ∙ ap (λ l. 44 ∷ l) (append_assoc (quoted name) (58 ∷ []) (34 ∷ []))

-- ---- lists that are built place by place

pub mapped-more : (f : ℕ → Text) (places : List ℕ) (made new : List Text) (k place : ℕ) (text : Text) → made ≡ map f (take k places) → k < length places → place ≡ get_or places k 0
    → text ≡ f place → new ≡ made ++ text ∷ [] → new ≡ map f (take (k + 1) places)
mapped-more f places made new k place text so_far within here is pushed =
    pushed ∙ ap (λ m. m ++ text ∷ []) so_far ∙ ap (λ t. map f (take k places) ++ t ∷ []) (is ∙ ap f here)
    ∙ sym (map-append f (take k places) (get_or places k 0 ∷ [])) ∙ ap (map f) (sym (take_more places k 0 within))

pub mapped-all : (f : ℕ → Text) (places : List ℕ) (made : List Text) (k : ℕ) → made ≡ map f (take k places) → length places ≤ k → made ≡ map f places
mapped-all f places made k so_far past = so_far ∙ ap (map f) (take_all k places past)

pub map-lead : (names : ℕ → Text) (places : List ℕ) → map (λ place. lead true (names place)) places ≡ map (lead true) (map names places)
map-lead names [] = refl
map-lead names (place ∷ places) = ap (λ l. lead true (names place) ∷ l) (map-lead names places)

-- ---- what a reader's result means

pub gives-ok : {X Y : Type 0} (view : X → Y) (result : Result X FormFault) (found : Option Y) (P : X → Type 0) → JsonGives view result found
    → ((x : X) → found ≡ Some (view x) → P x) → IfOk result P
gives-ok view (Ok x) found P gives step = step x gives
gives-ok view (Err fault) found P gives step = tt

pub gives-none : {X Y : Type 0} (view : X → Y) (result : Result X FormFault) (found : Option Y) → JsonGives view result found → result ≡ Err faults.NotRead → found ≡ None
gives-none view (Ok x) found gives is = cc
gives-none view (Err faults.NotRead) found gives is = gives
gives-none view (Err faults.NoMemory) found gives is = cc
