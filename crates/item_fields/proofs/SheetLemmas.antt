-- The table of fields and the texts at its places, entry by entry.
use Rattle.std.proofs.Common.{◌≡◌, ℕ, ◌+◌, ◌-◌, add-one, ◌++◌, append_assoc, append-nil, ◌<◌, ◌≤◌, zero, suc, List, [], ◌∷◌, Bool, true, false, not, ◌&&◌, ◌||◌, cond, length, get_or, set, take, drop, map, nat_lt, Bor, Option, None, Some, unwrap_or, refl, sym, ap, subst, ◌∙◌, arith}
use Rattle.std.specs.List.{find, list_any, zip}
use Rattle.std.specs.Option.{option_map}
use Rattle.std.specs.Map.{lookup}
use Rattle.std.specs.Str.{bytes_eq}
use Rattle.std.proofs.Math.ListN.{drop_of_length-le}
use Rattle.std.proofs.Math.Seq.{drop-cons, take-set-lt}
use Rattle.std.proofs.lemmas.Bool.{and_parts, false≢true, false_from_ne_true, not-true, or_parts}
use Rattle.std.proofs.lemmas.Bool.Decides.{nat_tests}
use Rattle.std.proofs.lemmas.List.{get_or-take, length-map, length-take, length-take-le, map-set, take-map}
use Rattle.std.proofs.lemmas.List.Folds.{list_any_at}
use Rattle.std.proofs.lemmas.Slice.Eq.{bytes_eq-Decides}
use Rattle.item_fields.specs.declared.fields.Content.{Content}
use Rattle.item_fields.specs.declared.fields.Facts.{Facts}
use Rattle.item_fields.specs.declared.fields.Kind.{Kind}
use Rattle.item_fields.specs.declared.fields.Need.{Need}
use Rattle.item_fields.specs.declared.readying.FieldCheck.{FieldCheck}
use Rattle.lei_records.specs.declared.rules.Rules.{Rules}
use Rattle.item_fields.specs.Fields.{Field, field_count, fields, fields_of, exception_fields, known_count, known_fields, names_of, read_field, relation_fields, row_fields, row_len}
use Rattle.item_fields.specs.Items.{is_field, row_text, text_under}
use Rattle.lei_records.specs.Places.{record_places}
use Rattle.lei_records.specs.Rows.{Row}
use Rattle.item_fields.specs.Sheets.{facts_at, field_fails, first_at, first_unknown, has_field, printed_at, read_texts, texts_by_place}

-- the table as the code borrows it
abbrev pub Lent : Type 0
Lent = List (Bor (List ℕ) × Content × Need)

name_at : (table : Lent) (i : ℕ) (d : Bor (List ℕ) × Content × Need) (name : List ℕ) → i < length table → get_or (map (λ field. field.0) (map read_field table)) i name ≡ (get_or table i d).0.now
name_at [] i d name within = absurd (omega arith)
name_at (f ∷ table) zero d name within = refl
name_at (f ∷ table) (suc i) d name within = name_at table i d name (omega arith)

-- the name at an index of the table
pub field_name-at : (kind : Kind) (table : Lent) → map read_field table ≡ fields_of kind → (i : ℕ) (d : Bor (List ℕ) × Content × Need) (name : List ℕ) → i < length table → get_or (names_of kind) i name ≡ (get_or table i d).0.now
field_name-at kind table same i d name within = ap (λ fs. get_or (map (λ field. field.0) fs) i name) (sym same) ∙ name_at table i d name within

list_any-map : {X Y : Type 0} (p : Y → Bool) (f : X → Y) (xs : List X) → list_any p (map f xs) ≡ list_any (λ x. p (f x)) xs
list_any-map p f [] = refl
list_any-map p f (x ∷ xs) = ap (λ b. p (f x) || b) (list_any-map p f xs)

pub any_of_fields : (kind : Kind) (p : Field → Bool) (table : Lent) → map read_field table ≡ fields_of kind → list_any (λ field. p (read_field field)) table ≡ list_any p (fields_of kind)
any_of_fields kind p table same = sym (list_any-map p read_field table) ∙ ap (list_any p) same

pub length-fields_of : (kind : Kind) → length (fields_of kind) ≡ field_count kind
unfolding fields relation_fields exception_fields
length-fields_of Kind.Record = refl
length-fields_of Kind.Relation = refl
length-fields_of Kind.Exception = refl

length-names_of : (kind : Kind) → length (names_of kind) ≡ field_count kind
length-names_of kind = length-map (fields_of kind) (λ field. field.0) ∙ length-fields_of kind

-- ---- a search for a name

length-mapped : {X Y : Type 0} (f : X → Y) (xs : List X) (ys : List Y) → map f xs ≡ ys → length xs ≡ length ys
length-mapped f xs ys same = sym (length-map xs f) ∙ ap length same

pub length-lent : (kind : Kind) (table : Lent) → map read_field table ≡ fields_of kind → length table ≡ field_count kind
length-lent kind table same = length-mapped read_field table (fields_of kind) same ∙ length-fields_of kind

count-small : (kind : Kind) → field_count kind ≤ record_places
count-small Kind.Record = omega arith
count-small Kind.Relation = omega arith
count-small Kind.Exception = omega arith

-- an index of the table is less than the number of fields, and so less than that of the places
pub within_count : (kind : Kind) (table : Lent) (i : ℕ) → map read_field table ≡ fields_of kind → i < length table → i < field_count kind
within_count kind table i same bound = rw (sym (length-lent kind table same)) bound

pub below_places : (kind : Kind) (i : ℕ) → i < field_count kind → i < record_places
below_places kind i bound = omega (arith, bound, count-small kind)

pub field_found : (kind : Kind) (table : Lent) → map read_field table ≡ fields_of kind → (i : ℕ) (d : Bor (List ℕ) × Content × Need) (name : List ℕ) → i < length table → bytes_eq (get_or table i d).0.now name ≡ true
    → (has_field kind name ≡ true) × (get_or (names_of kind) i name ≡ name)
field_found kind table same i d name within is = (
  sym (any_of_fields kind (λ field. bytes_eq field.0 name) table same) ∙ list_any_at (λ field. bytes_eq field.0.now name) table i d within is,
  field_name-at kind table same i d name within ∙ (bytes_eq-Decides _ name).0 is,
)

pub no_field_found : (kind : Kind) (table : Lent) → map read_field table ≡ fields_of kind → (i : ℕ) (name : List ℕ) → length table ≤ i → list_any (λ field. bytes_eq field.0.now name) (drop i table) ≡ list_any (λ field. bytes_eq field.0.now name) table → has_field kind name ≡ false
no_field_found kind table same i name past rest =
    sym (any_of_fields kind (λ field. bytes_eq field.0 name) table same) ∙ (sym rest ∙ ap (list_any (λ field. bytes_eq field.0.now name)) (drop_of_length-le table past))

-- ---- each text goes to the place of its name

none_at : {X : Type 0} (p : X → Bool) (xs : List X) (k : ℕ) (d : X) → list_any p xs ≡ false → k < length xs → p (get_or xs k d) ≡ false
none_at p [] k d none within = absurd (omega arith)
none_at p (x ∷ xs) zero d none within = (or_parts (p x) (list_any p xs) none).0
none_at p (x ∷ xs) (suc k) d none within = none_at p xs k d (or_parts (p x) (list_any p xs) none).1 (omega arith)

-- two names that differ in one order differ in the other
apart_turned : (a b : List ℕ) → bytes_eq a b ≡ false → bytes_eq b a ≡ false
apart_turned a b apart =
    false_from_ne_true (bytes_eq b a) (λ same. false≢true (sym apart ∙ (bytes_eq-Decides a b).1 (sym ((bytes_eq-Decides b a).0 same))))

-- no name occurs twice
abbrev are_apart : List (List ℕ) → Bool
are_apart [] = true
are_apart (name ∷ names) = not (list_any (λ other. bytes_eq other name) names) && are_apart names

fields_apart : (kind : Kind) → are_apart (names_of kind) ≡ true
unfolding fields relation_fields exception_fields
fields_apart Kind.Record = refl
fields_apart Kind.Relation = refl
fields_apart Kind.Exception = refl

-- the texts under the names after one more pair is put before the others
abbrev with_pair : List ℕ → List ℕ → (List ℕ → Option (List ℕ)) → List ℕ → List ℕ
with_pair name text others n = unwrap_or (cond (bytes_eq n name) (Some text) (others n)) []

abbrev without : (List ℕ → Option (List ℕ)) → List ℕ → List ℕ
without others n = unwrap_or (others n) []

untouched : (name text : List ℕ) (others : List ℕ → Option (List ℕ)) (ns : List (List ℕ)) → list_any (λ n. bytes_eq n name) ns ≡ false → map (with_pair name text others) ns ≡ map (without others) ns
untouched name text others [] none = refl
untouched name text others (n ∷ ns) none =
    let parts = or_parts (bytes_eq n name) (list_any (λ o. bytes_eq o name) ns) none in
    rw parts.0 (ap (λ ts. without others n ∷ ts) (untouched name text others ns parts.1))

touched : (name text : List ℕ) (others : List ℕ → Option (List ℕ)) (ns : List (List ℕ)) (k : ℕ) → are_apart ns ≡ true → k < length ns → get_or ns k name ≡ name
    → map (with_pair name text others) ns ≡ set (map (without others) ns) k text
touched name text others [] k apart within is = absurd (omega arith)
touched name text others (n ∷ ns) zero apart within is =
    let parts = and_parts (not (list_any (λ o. bytes_eq o n) ns)) (are_apart ns) apart in
    let here : bytes_eq n name ≡ true = (bytes_eq-Decides n name).1 is in
    let P : List ℕ → Type 0 = λ m. list_any (λ o. bytes_eq o m) ns ≡ false in
    rw here (ap (λ ts. text ∷ ts) (untouched name text others ns (subst P is (not-true _ parts.0))))
touched name text others (n ∷ ns) (suc k) apart within is =
    let parts = and_parts (not (list_any (λ o. bytes_eq o n) ns)) (are_apart ns) apart in
    let at : bytes_eq (get_or ns k name) n ≡ false = none_at (λ o. bytes_eq o n) ns k name (not-true _ parts.0) (omega arith) in
    let other : bytes_eq n name ≡ false = apart_turned name n (ap (λ m. bytes_eq m n) (sym is) ∙ at) in
    rw other (ap (λ ts. without others n ∷ ts) (touched name text others ns k parts.1 (omega arith) is))

texts_by_name : (pairs : List (List ℕ × List ℕ)) (fs : List (Field)) → map (λ field. text_under pairs field.0) fs ≡ map (text_under pairs) (map (λ field. field.0) fs)
texts_by_name pairs [] = refl
texts_by_name pairs (f ∷ fs) = ap (λ ts. text_under pairs f.0 ∷ ts) (texts_by_name pairs fs)

any_by_name : (name : List ℕ) (fs : List (Field)) → list_any (λ field. bytes_eq field.0 name) fs ≡ list_any (λ n. bytes_eq n name) (map (λ field. field.0) fs)
any_by_name name [] = refl
any_by_name name (f ∷ fs) = ap (λ b. bytes_eq f.0 name || b) (any_by_name name fs)

-- a known name's text goes to its place
pub texts_by_place-known : (kind : Kind) (name text : List ℕ) (rest : List (List ℕ × List ℕ)) (k : ℕ) → k < field_count kind → get_or (names_of kind) k name ≡ name
    → texts_by_place kind ((name, text) ∷ rest) ≡ set (texts_by_place kind rest) k text
texts_by_place-known kind name text rest k within is =
    texts_by_name ((name, text) ∷ rest) (fields_of kind)
    ∙ (touched name text (λ n. lookup (bytes_eq n) rest) (names_of kind) k (fields_apart kind) (rw (length-names_of kind) within) is
    ∙ ap (λ ts. set ts k text) (sym (texts_by_name rest (fields_of kind))))

-- an unknown name's text goes nowhere
pub texts_by_place-unknown : (kind : Kind) (name text : List ℕ) (rest : List (List ℕ × List ℕ)) → has_field kind name ≡ false → texts_by_place kind ((name, text) ∷ rest) ≡ texts_by_place kind rest
texts_by_place-unknown kind name text rest unknown =
    texts_by_name ((name, text) ∷ rest) (fields_of kind)
    ∙ (untouched name text (λ n. lookup (bytes_eq n) rest) (names_of kind) (sym (any_by_name name (fields_of kind)) ∙ unknown)
    ∙ sym (texts_by_name rest (fields_of kind)))

-- ---- names that the rules have

-- a name at an index less than n is among the first n
among_first : (name : List ℕ) (ns : List (List ℕ)) (k n : ℕ) → k < n → k < length ns → get_or ns k name ≡ name → list_any (λ m. bytes_eq m name) (take n ns) ≡ true
among_first name ns k n low within is =
    list_any_at (λ m. bytes_eq m name) (take n ns) k name (omega (arith, low, within, length-take n ns)) ((bytes_eq-Decides _ name).1 (get_or-take n ns k name low ∙ is))

-- and otherwise it isn't, if no name occurs twice
not_among_first : (name : List ℕ) (ns : List (List ℕ)) (k n : ℕ) → n ≤ k → are_apart ns ≡ true → k < length ns → get_or ns k name ≡ name
    → list_any (λ m. bytes_eq m name) (take n ns) ≡ false
not_among_first name ns k zero past apart within is = refl
not_among_first name [] k (suc n) past apart within is = absurd (omega (arith, within))
not_among_first name (m ∷ ns) zero (suc n) past apart within is = absurd (omega (arith, past))
not_among_first name (m ∷ ns) (suc k) (suc n) past apart within is =
    let parts = and_parts (not (list_any (λ o. bytes_eq o m) ns)) (are_apart ns) apart in
    let at : bytes_eq (get_or ns k name) m ≡ false = none_at (λ o. bytes_eq o m) ns k name (not-true _ parts.0) (omega (arith, within)) in
    let other : bytes_eq m name ≡ false = apart_turned name m (ap (λ o. bytes_eq o m) (sym is) ∙ at) in
    rw other (not_among_first name ns k n (omega (arith, past)) parts.1 (omega (arith, within)) is)

-- the names of the fields that the rules have
known_names : (rules : Rules) (kind : Kind) → map (λ field. field.0) (known_fields rules kind) ≡ take (known_count rules kind) (names_of kind)
known_names rules kind = sym (take-map (λ field. field.0) (known_count rules kind) (fields_of kind))

known_by_names : (rules : Rules) (kind : Kind) (name : List ℕ) → is_field rules kind name ≡ list_any (λ n. bytes_eq n name) (take (known_count rules kind) (names_of kind))
known_by_names rules kind name = any_by_name name (known_fields rules kind) ∙ ap (list_any (λ n. bytes_eq n name)) (known_names rules kind)

-- whether the rules have a field depends on its index
known_at : (rules : Rules) (kind : Kind) (name : List ℕ) (k : ℕ) → k < field_count kind → get_or (names_of kind) k name ≡ name → k < known_count rules kind → is_field rules kind name ≡ true
known_at rules kind name k within is low =
    known_by_names rules kind name ∙ among_first name (names_of kind) k (known_count rules kind) low (rw (length-names_of kind) within) is

later_at : (rules : Rules) (kind : Kind) (name : List ℕ) (k : ℕ) → k < field_count kind → get_or (names_of kind) k name ≡ name → known_count rules kind ≤ k → is_field rules kind name ≡ false
later_at rules kind name k within is past =
    known_by_names rules kind name ∙ not_among_first name (names_of kind) k (known_count rules kind) past (fields_apart kind) (rw (length-names_of kind) within) is

none_in_front : {X : Type 0} (p : X → Bool) (n : ℕ) (xs : List X) → list_any p xs ≡ false → list_any p (take n xs) ≡ false
none_in_front p zero xs none = refl
none_in_front p (suc n) [] none = refl
none_in_front p (suc n) (x ∷ xs) none =
    let parts = or_parts (p x) (list_any p xs) none in
    rw parts.0 (none_in_front p n xs parts.1)

-- a name that no field has isn't one that the rules have
not_known : (rules : Rules) (kind : Kind) (name : List ℕ) → has_field kind name ≡ false → is_field rules kind name ≡ false
not_known rules kind name none = none_in_front (λ field. bytes_eq field.0 name) (known_count rules kind) (fields_of kind) none

pub first_unknown-known : (rules : Rules) (kind : Kind) (name text : List ℕ) (rest : List (List ℕ × List ℕ)) → is_field rules kind name ≡ true → first_unknown rules kind ((name, text) ∷ rest) ≡ first_unknown rules kind rest
first_unknown-known rules kind name text rest known = rw known refl

pub first_unknown-unknown : (rules : Rules) (kind : Kind) (name text : List ℕ) (rest : List (List ℕ × List ℕ)) → is_field rules kind name ≡ false → first_unknown rules kind ((name, text) ∷ rest) ≡ Some name
first_unknown-unknown rules kind name text rest unknown = rw unknown refl

-- without a pair there is no text
pub texts_by_place-none : (kind : Kind)
    → take (field_count kind) ([] ∷ [] ∷ [] ∷ [] ∷ [] ∷ [] ∷ [] ∷ [] ∷ [] ∷ [] ∷ [] ∷ [] ∷ [] ∷ [] ∷ [] ∷ [] ∷ [] ∷ [] ∷ [] ∷ [] ∷ [] ∷ [] ∷ [] ∷ [] ∷ [] ∷ [] ∷ [] ∷ [] ∷ [] ∷ [] ∷ [] ∷ [] ∷ []) ≡ texts_by_place kind []
unfolding fields relation_fields exception_fields
texts_by_place-none Kind.Record = refl
texts_by_place-none Kind.Relation = refl
texts_by_place-none Kind.Exception = refl

-- the pair before an index, and those from the index on
drop_before : (pairs : List (List ℕ × List ℕ)) (i : ℕ) (p : List ℕ × List ℕ) → 0 < i → i ≤ length pairs → p ≡ get_or pairs (i - 1) p → drop (i - 1) pairs ≡ p ∷ drop i pairs
drop_before pairs i p low high is =
    let next : suc (i - 1) ≡ i = omega arith in
    drop-cons pairs (i - 1) p (omega arith) ∙ (ap (λ q. q ∷ drop (suc (i - 1)) pairs) (sym is) ∙ ap (λ k. p ∷ drop k pairs) next)

pub placed_known : (kind : Kind) (pairs : List (List ℕ × List ℕ)) (i : ℕ) (p : List ℕ × List ℕ) (name : List ℕ) (k : ℕ) (text : Bor (List ℕ)) (texts : List (Bor (List ℕ)))
    → 0 < i → i ≤ length pairs → p ≡ get_or pairs (i - 1) p → name ≡ p.0 → text.now ≡ p.1 → k < field_count kind → get_or (names_of kind) k name ≡ name
    → take (field_count kind) (read_texts texts) ≡ texts_by_place kind (drop i pairs) → take (field_count kind) (read_texts (set texts k text)) ≡ texts_by_place kind (drop (i - 1) pairs)
placed_known kind pairs i p name k text texts low high is is_name is_text within at sofar =
    let P : List ℕ → Type 0 = λ n. get_or (names_of kind) k n ≡ n in
    ap (take (field_count kind)) (map-set (λ t. t.now) texts k text)
    ∙ (take-set-lt (field_count kind) (read_texts texts) k text.now within
    ∙ (ap (λ t. set (take (field_count kind) (read_texts texts)) k t) is_text ∙ (ap (λ ts. set ts k p.1) sofar
    ∙ (sym (texts_by_place-known kind p.0 p.1 (drop i pairs) k within (subst P is_name at)) ∙ ap (texts_by_place kind) (sym (drop_before pairs i p low high is))))))

pub placed_unknown : (kind : Kind) (pairs : List (List ℕ × List ℕ)) (i : ℕ) (p : List ℕ × List ℕ) (name : List ℕ) (texts : List (Bor (List ℕ)))
    → 0 < i → i ≤ length pairs → p ≡ get_or pairs (i - 1) p → name ≡ p.0 → has_field kind name ≡ false
    → take (field_count kind) (read_texts texts) ≡ texts_by_place kind (drop i pairs) → take (field_count kind) (read_texts texts) ≡ texts_by_place kind (drop (i - 1) pairs)
placed_unknown kind pairs i p name texts low high is is_name unknown sofar =
    sofar ∙ (sym (texts_by_place-unknown kind p.0 p.1 (drop i pairs) (ap (has_field kind) (sym is_name) ∙ unknown)) ∙ ap (texts_by_place kind) (sym (drop_before pairs i p low high is)))

told_known : (rules : Rules) (kind : Kind) (pairs : List (List ℕ × List ℕ)) (i : ℕ) (p : List ℕ × List ℕ) (name : List ℕ) (unknown : Option (List ℕ))
    → 0 < i → i ≤ length pairs → p ≡ get_or pairs (i - 1) p → name ≡ p.0 → is_field rules kind name ≡ true
    → unknown ≡ first_unknown rules kind (drop i pairs) → unknown ≡ first_unknown rules kind (drop (i - 1) pairs)
told_known rules kind pairs i p name unknown low high is is_name known sofar =
    sofar ∙ (sym (first_unknown-known rules kind p.0 p.1 (drop i pairs) (ap (is_field rules kind) (sym is_name) ∙ known)) ∙ ap (first_unknown rules kind) (sym (drop_before pairs i p low high is)))

told : (rules : Rules) (kind : Kind) (pairs : List (List ℕ × List ℕ)) (i : ℕ) (p : List ℕ × List ℕ) (name : List ℕ)
    → 0 < i → i ≤ length pairs → p ≡ get_or pairs (i - 1) p → name ≡ p.0 → is_field rules kind name ≡ false
    → Some name ≡ first_unknown rules kind (drop (i - 1) pairs)
told rules kind pairs i p name low high is is_name unknown =
    ap Some is_name ∙ (sym (first_unknown-unknown rules kind p.0 p.1 (drop i pairs) (ap (is_field rules kind) (sym is_name) ∙ unknown))
    ∙ ap (first_unknown rules kind) (sym (drop_before pairs i p low high is)))

-- the first unknown name after the name of a field, which the rules may have or not
pub told_placed : (rules : Rules) (kind : Kind) (pairs : List (List ℕ × List ℕ)) (i : ℕ) (p : List ℕ × List ℕ) (name : List ℕ) (k : ℕ) (unknown unknown' : Option (List ℕ))
    → 0 < i → i ≤ length pairs → p ≡ get_or pairs (i - 1) p → name ≡ p.0 → k < field_count kind → get_or (names_of kind) k name ≡ name
    → unknown' ≡ cond (nat_lt k (known_count rules kind)) unknown (Some name)
    → unknown ≡ first_unknown rules kind (drop i pairs) → unknown' ≡ first_unknown rules kind (drop (i - 1) pairs)
told_placed rules kind pairs i p name k unknown unknown' low high is is_name within at next sofar =
    next ∙ elim (nat_lt k (known_count rules kind)) as (λ b. nat_lt k (known_count rules kind) ≡ b → cond b unknown (Some name) ≡ first_unknown rules kind (drop (i - 1) pairs)) [
      | true ↦ λ test. told_known rules kind pairs i p name unknown low high is is_name (known_at rules kind name k within at (grind (arith, nat_tests))) sofar
      | false ↦ λ test. told rules kind pairs i p name low high is is_name (later_at rules kind name k within at (grind (arith, nat_tests)))
    ] refl

-- the same after a name that no field has
pub told_unknown : (rules : Rules) (kind : Kind) (pairs : List (List ℕ × List ℕ)) (i : ℕ) (p : List ℕ × List ℕ) (name : List ℕ)
    → 0 < i → i ≤ length pairs → p ≡ get_or pairs (i - 1) p → name ≡ p.0 → has_field kind name ≡ false
    → Some name ≡ first_unknown rules kind (drop (i - 1) pairs)
told_unknown rules kind pairs i p name low high is is_name unknown =
    told rules kind pairs i p name low high is is_name (not_known rules kind name unknown)

-- ---- the entries of the table with their texts, one by one

-- an index of the table is an index of the texts
pub has_text : (kind : Kind) (table : Lent) (texts : List (Bor (List ℕ))) (i : ℕ) → map read_field table ≡ fields_of kind → length texts ≡ field_count kind → i < length table → i < length texts
has_text kind table texts i same len bound = rw len (within_count kind table i same bound)

-- the table of the fields in a row, of which there are n
pub row_table : (kind : Kind) (n : ℕ) (table : Lent) → n ≡ row_len kind → map read_field table ≡ fields_of kind → map read_field (take n table) ≡ row_fields kind
row_table kind n table is same = sym (take-map read_field n table) ∙ (ap (take n) same ∙ ap (λ m. take m (fields_of kind)) is)

row-short : (kind : Kind) → row_len kind ≤ field_count kind
row-short Kind.Record = omega arith
row-short Kind.Relation = omega arith
row-short Kind.Exception = omega arith

pub row_table-length : (kind : Kind) (n : ℕ) (table : Lent) → n ≡ row_len kind → map read_field table ≡ fields_of kind → n ≡ length (take n table)
row_table-length kind n table is same = sym (length-take-le n table (rw (is, length-lent kind table same) (row-short kind)))

pub has_row_text : (kind : Kind) (n : ℕ) (table : Lent) (texts : List (Bor (List ℕ))) (i : ℕ) → n ≡ row_len kind → length texts ≡ field_count kind → i < length (take n table) → i < length texts
has_row_text kind n table texts i is len bound =
    let short : i < n = omega (arith, bound, length-take n table) in
    omega (arith, len, short, is, row-short kind)

-- the name of the first field that fails the check
abbrev pub first_in : FieldCheck → Facts → Lent → List (Bor (List ℕ)) → Option (List ℕ)
first_in check facts table texts = option_map (λ entry. entry.0.0.now) (find (λ entry. field_fails check facts (read_field entry.0) entry.1.now) (zip table texts))

-- the texts of the row
abbrev pub printed_in : Lent → List (Bor (List ℕ)) → Row
printed_in table texts = map (λ entry. row_text entry.0.1 entry.1.now) (zip table texts)

zip-at : {X Y : Type 0} (xs : List X) (ys : List Y) (i : ℕ) (d : X) (e : Y) → i < length xs → i < length ys
    → zip (drop i xs) (drop i ys) ≡ (get_or xs i d, get_or ys i e) ∷ zip (drop (i + 1) xs) (drop (i + 1) ys)
zip-at xs ys i d e first second = rw add-one (ap (λ l. zip l (drop i ys)) (drop-cons xs i d first) ∙ ap (λ l. zip (get_or xs i d ∷ drop (suc i) xs) l) (drop-cons ys i e second))

zip-past : {X Y : Type 0} (xs : List X) (ys : List Y) (i : ℕ) → length xs ≤ i → zip (drop i xs) ys ≡ []
zip-past xs ys i past = ap (λ l. zip l ys) (drop_of_length-le xs past)

zip-map : {X Y V W : Type 0} (f : X → V) (g : Y → W) (xs : List X) (ys : List Y) → zip (map f xs) (map g ys) ≡ map (λ entry. (f entry.0, g entry.1)) (zip xs ys)
zip-map f g [] ys = refl
zip-map f g (x ∷ xs) [] = refl
zip-map f g (x ∷ xs) (y ∷ ys) = ap (λ l. (f x, g y) ∷ l) (zip-map f g xs ys)

pub find-map : {X Y : Type 0} (p : Y → Bool) (f : X → Y) (xs : List X) → find p (map f xs) ≡ option_map f (find (λ x. p (f x)) xs)
find-map p f [] = refl
find-map p f (x ∷ xs) =
    elim (p (f x)) as (λ b. cond b (Some (f x)) (find p (map f xs)) ≡ option_map f (cond b (Some x) (find (λ y. p (f y)) xs))) [
      | true ↦ refl
      | false ↦ find-map p f xs
    ]

pub map-map : {X Y Z : Type 0} (f : Y → Z) (g : X → Y) (xs : List X) → map f (map g xs) ≡ map (λ x. f (g x)) xs
map-map f g [] = refl
map-map f g (x ∷ xs) = ap (λ zs. f (g x) ∷ zs) (map-map f g xs)

-- the table and the texts as the definitions see them
abbrev read_entry : (Bor (List ℕ) × Content × Need) × Bor (List ℕ) → (Field) × List ℕ
read_entry entry = (read_field entry.0, entry.1.now)

entries-read : (table : Lent) (texts : List (Bor (List ℕ))) (fs : List Field) → map read_field table ≡ fs → zip fs (read_texts texts) ≡ map read_entry (zip table texts)
entries-read table texts fs same = ap (λ l. zip l (read_texts texts)) (sym same) ∙ zip-map read_field (λ text. text.now) table texts

name_of_found : (found : Option ((Bor (List ℕ) × Content × Need) × Bor (List ℕ))) → option_map (λ entry. entry.0.0) (option_map read_entry found) ≡ option_map (λ entry. entry.0.0.now) found
name_of_found None = refl
name_of_found (Some entry) = refl

pub first_in-all : (rules : Rules) (check : FieldCheck) (kind : Kind) (table : Lent) (texts : List (Bor (List ℕ))) → map read_field table ≡ fields_of kind
    → first_in check (facts_at rules kind (read_texts texts)) table texts ≡ first_at rules check kind (read_texts texts)
unfolding first_at
first_in-all rules check kind table texts same =
    let asks : Field × List ℕ → Bool = λ entry. field_fails check (facts_at rules kind (read_texts texts)) entry.0 entry.1 in
    sym (ap (λ entries. option_map (λ entry. entry.0.0) (find asks entries)) (entries-read table texts (fields_of kind) same)
    ∙ (ap (option_map (λ entry. entry.0.0)) (find-map asks read_entry (zip table texts)) ∙ name_of_found (find (λ entry. asks (read_entry entry)) (zip table texts))))

pub first_in-yes : (check : FieldCheck) (facts : Facts) (table : Lent) (texts : List (Bor (List ℕ))) (i : ℕ) (d : Bor (List ℕ) × Content × Need) (e : Bor (List ℕ)) → i < length table → i < length texts
    → field_fails check facts (read_field (get_or table i d)) (get_or texts i e).now ≡ true → Some (get_or table i d).0.now ≡ first_in check facts (drop i table) (drop i texts)
first_in-yes check facts table texts i d e first second asks =
    sym (ap (λ entries. option_map (λ entry. entry.0.0.now) (find (λ entry. field_fails check facts (read_field entry.0) entry.1.now) entries)) (zip-at table texts i d e first second) ∙ rw asks refl)

pub first_in-no : (check : FieldCheck) (facts : Facts) (table : Lent) (texts : List (Bor (List ℕ))) (i : ℕ) (d : Bor (List ℕ) × Content × Need) (e : Bor (List ℕ)) → i < length table → i < length texts
    → field_fails check facts (read_field (get_or table i d)) (get_or texts i e).now ≡ false → first_in check facts (drop (i + 1) table) (drop (i + 1) texts) ≡ first_in check facts (drop i table) (drop i texts)
first_in-no check facts table texts i d e first second asks =
    sym (ap (λ entries. option_map (λ entry. entry.0.0.now) (find (λ entry. field_fails check facts (read_field entry.0) entry.1.now) entries)) (zip-at table texts i d e first second) ∙ rw asks refl)

pub first_in-past : (check : FieldCheck) (facts : Facts) (table : Lent) (texts : List (Bor (List ℕ))) (i : ℕ) → length table ≤ i → None ≡ first_in check facts (drop i table) (drop i texts)
first_in-past check facts table texts i past =
    sym (ap (λ entries. option_map (λ entry. entry.0.0.now) (find (λ entry. field_fails check facts (read_field entry.0) entry.1.now) entries)) (zip-past table (drop i texts) i past))

pub printed_in-all : (kind : Kind) (table : Lent) (texts : List (Bor (List ℕ))) → map read_field table ≡ row_fields kind → printed_in table texts ≡ printed_at kind (read_texts texts)
unfolding printed_at
printed_in-all kind table texts same =
    let make : Field × List ℕ → List ℕ = λ entry. row_text entry.0.1 entry.1 in
    sym (ap (map make) (entries-read table texts (row_fields kind) same) ∙ map-map make read_entry (zip table texts))

-- one more text
pub printed_in-more : (made : Row) (text : List ℕ) (table : Lent) (texts : List (Bor (List ℕ))) (i : ℕ) (d : Bor (List ℕ) × Content × Need) (e : Bor (List ℕ)) → i < length table → i < length texts
    → text ≡ row_text (get_or table i d).1 (get_or texts i e).now → (made ++ text ∷ []) ++ printed_in (drop (i + 1) table) (drop (i + 1) texts) ≡ made ++ printed_in (drop i table) (drop i texts)
printed_in-more made text table texts i d e first second is =
    append_assoc made (text ∷ []) (printed_in (drop (i + 1) table) (drop (i + 1) texts))
    ∙ ap (λ rest. made ++ rest) (ap (λ t. t ∷ printed_in (drop (i + 1) table) (drop (i + 1) texts)) is
    ∙ sym (ap (map (λ entry. row_text entry.0.1 entry.1.now)) (zip-at table texts i d e first second)))

pub printed_in-past : (made : Row) (table : Lent) (texts : List (Bor (List ℕ))) (i : ℕ) → length table ≤ i → made ≡ made ++ printed_in (drop i table) (drop i texts)
printed_in-past made table texts i past =
    sym (ap (λ entries. made ++ map (λ entry. row_text entry.0.1 entry.1.now) entries) (zip-past table (drop i texts) i past) ∙ append-nil made)
