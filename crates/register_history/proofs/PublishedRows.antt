-- The rows that are published from a sound table: what is under a key, and that their keys rise.
use Rattle.std.proofs.Common.{◌≡◌, ℕ, Bool, true, false, cond, List, [], ◌∷◌, filter, map, Option, Some, None, option_map, unwrap_or, refl, sym, ap, subst, ◌∙◌, arith, T}
use Rattle.std.specs.Prelude.{IsSome}
use Rattle.std.specs.FinMap.{entries, entries_sorted, get, get-entries, get-from_entries}
use Rattle.std.specs.FinMap.Entries.{below_all, find, is_sorted}
use Rattle.std.specs.List.{AllByRecursion}
use Rattle.std.specs.Ordering.{eq_by_cmp, is_lt}
use Rattle.std.specs.Str.{bytes_eq}
use Rattle.std.proofs.lemmas.Slice.Eq.{bytes_eq-Decides}
use Rattle.authority_rules.proofs.HolderLemmas.{keys_total, same_key}
use Rattle.authority_rules.proofs.KeyLemmas.{key_itself}
use Rattle.lei_shapes.specs.Lists.{exception_categories, exception_category_text, relation_type_text, relation_types, value_named}
use Rattle.lei_records.specs.Exceptions.{exception_category_in}
use Rattle.lei_records.specs.Relations.{kind_in}
use Rattle.lei_records.specs.Cells.{lei_in}
use Rattle.lei_records.specs.Rows.{Row}
use Rattle.lei_records.specs.Spelled.{IsExceptionRow, IsRecordRow, IsRelationRow}
use Rattle.lei_records.specs.Tables.{IsSoundTable, KeyTexts, Table, exception_key_in, key_cmp, record_key, relation_key_in}
use Rattle.register_words.specs.declared.sheets.Sheet.{Sheet}
use Rattle.copy_csv.specs.Rows.{KeysRise}
use Rattle.copy_csv.specs.Sheets.{SheetRow, key, row_of_texts}
use Rattle.copy_forms.specs.Trails.{row_under}
use Rattle.golden_shelf.proofs.Keeping.{rising_rows, under_keys}
use Rattle.register_history.specs.Publications.{is_published, published_rows, sheet_rows}
use Rattle.register_history.proofs.Finding.{both, find_below, first, only, second}

-- ---- what is published under a key

-- for a row that is held, what is published of it
abbrev pub published_row : Sheet → Option Row → Option SheetRow
published_row sheet row = option_map (row_of_texts sheet) (only (is_published sheet) row)

abbrev pub published_at : Table → Sheet → KeyTexts → Option SheetRow
published_at table sheet k = published_row sheet (get (sheet_rows table sheet) k)

-- ---- the keys of rows

-- a value that a text names has this text
value_named-text : {V : Type 0} (text_of : V → List ℕ) (values : List V) (text : List ℕ) (value : V) → value_named text_of values text ≡ Some value → text_of value ≡ text
value_named-text text_of [] text value is = cc
value_named-text text_of (v ∷ values) text value is = by (bytes_eq (text_of v) text) refl is (value_named-text text_of values text value)
  where
    by : (b : Bool) → bytes_eq (text_of v) text ≡ b → cond b (Some v) (value_named text_of values text) ≡ Some value
        → (value_named text_of values text ≡ Some value → text_of value ≡ text) → text_of value ≡ text
    by true test is later =
        let same : v ≡ value = cc in
        ap text_of (sym same) ∙ (bytes_eq-Decides (text_of v) text).0 test
    by false test is later = later is

spelled-text : {V : Type 0} (text_of : V → List ℕ) (values : List V) (text : List ℕ) (other : V) → IsSome (value_named text_of values text)
    → text_of (unwrap_or (value_named text_of values text) other) ≡ text
spelled-text {V = V} text_of values text other some = by (value_named text_of values text) refl some
  where
    by : (found : Option V) → value_named text_of values text ≡ found → IsSome found → text_of (unwrap_or found other) ≡ text
    by None is some = cc
    by (Some value) is some = value_named-text text_of values text value is

record-key : (row : Row) → IsRecordRow row → key (row_of_texts Sheet.Lei row) ≡ record_key (lei_in row)
record-key [] is = let none = is.places in absurd (omega (arith, none))
record-key (lei ∷ texts) is = refl

relation-key : (row : Row) → IsRelationRow row → key (row_of_texts Sheet.Rr row) ≡ relation_key_in row
unfolding kind_in
relation-key [] is = let few = is.places in absurd (omega (arith, few))
relation-key (a ∷ []) is = let few = is.places in absurd (omega (arith, few))
relation-key (a ∷ b ∷ []) is = let few = is.places in absurd (omega (arith, few))
relation-key (a ∷ b ∷ c ∷ texts) is = ap (λ t. a ∷ t ∷ c ∷ []) (sym (spelled-text relation_type_text relation_types b _ is.kind))

exception-key : (row : Row) → IsExceptionRow row → key (row_of_texts Sheet.Repex row) ≡ exception_key_in row
unfolding exception_category_in
exception-key [] is = let few = is.places in absurd (omega (arith, few))
exception-key (a ∷ []) is = let few = is.places in absurd (omega (arith, few))
exception-key (a ∷ b ∷ texts) is = ap (λ t. a ∷ t ∷ []) (sym (spelled-text exception_category_text exception_categories b _ is.category))

-- each row of a sound table is under the key that its texts start with
pub row-keyed : (table : Table) (sheet : Sheet) (k : KeyTexts) (row : Row) → IsSoundTable table → get (sheet_rows table sheet) k ≡ Some row → key (row_of_texts sheet row) ≡ k
row-keyed table Sheet.Lei k row sound at = record-key row (sound.rows k row at) ∙ sym (sound.keyed k row at)
row-keyed table Sheet.Rr k row sound at = relation-key row (sound.relation_rows k row at) ∙ sym (sound.relations_keyed k row at)
row-keyed table Sheet.Repex k row sound at = exception-key row (sound.exception_rows k row at) ∙ sym (sound.exceptions_keyed k row at)

-- ---- sorted entries

-- what holds for each that is found
pub each-found : {X : Type 0} (P : KeyTexts → X → Type 0) (es : List (KeyTexts × X)) → T (is_sorted key_cmp es)
    → ((k : KeyTexts) (x : X) → find key_cmp k es ≡ Some x → P k x) → AllByRecursion (λ e. P e.0 e.1) es
each-found P [] sorted each = tt
each-found {X = X} P (e ∷ es) sorted each = (each e.0 e.1 (ap (λ b. cond b (Some e.1) (find key_cmp e.0 es)) (key_itself e.0)), each-found P es (second _ _ sorted) later)
  where
    later : (k : KeyTexts) (x : X) → find key_cmp k es ≡ Some x → P k x
    later k x found = by (eq_by_cmp key_cmp k e.0) refl
      where
        by : (b : Bool) → eq_by_cmp key_cmp k e.0 ≡ b → P k x
        by true same =
            let none = find_below key_cmp same_key k es (subst (λ j. T (below_all key_cmp j es)) (sym (same_key k e.0 same)) (first _ _ sorted)) in
            let clash : Some x ≡ None = sym found ∙ none in
            cc
        by false apart = each k x (ap (λ b. cond b (Some e.1) (find key_cmp k es)) apart ∙ found)

-- ---- the list of them

abbrev AreKeyed : Sheet → List (KeyTexts × Row) → Type 0
AreKeyed sheet es = AllByRecursion (λ e. key (row_of_texts sheet e.1) ≡ e.0) es

abbrev pub rows_listed : Sheet → List (KeyTexts × Row) → List SheetRow
rows_listed sheet es = map (row_of_texts sheet) (filter (is_published sheet) (map (λ (e : KeyTexts × Row). e.1) es))

find-listed : (sheet : Sheet) (es : List (KeyTexts × Row)) (k : KeyTexts) → AreKeyed sheet es → T (is_sorted key_cmp es)
    → find key_cmp k (under_keys (rows_listed sheet es)) ≡ published_row sheet (find key_cmp k es)
find-listed sheet [] k keyed sorted = refl
find-listed sheet (e ∷ es) k keyed sorted =
    by (is_published sheet e.1) refl (eq_by_cmp key_cmp k e.0) refl (find-listed sheet es k keyed.1 (second _ _ sorted))
  where
    rest : List SheetRow
    rest = rows_listed sheet es

    own : SheetRow
    own = row_of_texts sheet e.1

    test : key own ≡ e.0
    test = keyed.0

    none : eq_by_cmp key_cmp k e.0 ≡ true → find key_cmp k es ≡ None
    none same = find_below key_cmp same_key k es (subst (λ j. T (below_all key_cmp j es)) (sym (same_key k e.0 same)) (first _ _ sorted))

    by : (p : Bool) → is_published sheet e.1 ≡ p → (t : Bool) → eq_by_cmp key_cmp k e.0 ≡ t
        → find key_cmp k (under_keys rest) ≡ published_row sheet (find key_cmp k es)
        → find key_cmp k (under_keys (map (row_of_texts sheet) (cond p (e.1 ∷ filter (is_published sheet) (map (λ (e : KeyTexts × Row). e.1) es)) (filter (is_published sheet) (map (λ (e : KeyTexts × Row). e.1) es)))))
        ≡ published_row sheet (cond t (Some e.1) (find key_cmp k es))
    by true shown true same later =
        ap (λ j. cond (eq_by_cmp key_cmp k j) (Some own) (find key_cmp k (under_keys rest))) test
        ∙ (ap (λ b. cond b (Some own) (find key_cmp k (under_keys rest))) same
        ∙ ap (λ b. option_map (row_of_texts sheet) (cond b (Some e.1) None)) (sym shown))
    by true shown false apart later =
        ap (λ j. cond (eq_by_cmp key_cmp k j) (Some own) (find key_cmp k (under_keys rest))) test
        ∙ (ap (λ b. cond b (Some own) (find key_cmp k (under_keys rest))) apart ∙ later)
    by false hidden true same later =
        later ∙ (ap (published_row sheet) (none same) ∙ ap (λ b. option_map (row_of_texts sheet) (cond b (Some e.1) None)) (sym hidden))
    by false hidden false apart later = later

below-listed : (sheet : Sheet) (es : List (KeyTexts × Row)) (k : KeyTexts) → AreKeyed sheet es → T (below_all key_cmp k es)
    → T (below_all key_cmp k (under_keys (rows_listed sheet es)))
below-listed sheet [] k keyed below = tt
below-listed sheet (e ∷ es) k keyed below =
    by (is_published sheet e.1) (below-listed sheet es k keyed.1 (second _ _ below))
  where
    by : (p : Bool) → T (below_all key_cmp k (under_keys (rows_listed sheet es)))
        → T (below_all key_cmp k (under_keys (map (row_of_texts sheet) (cond p (e.1 ∷ filter (is_published sheet) (map (λ (e : KeyTexts × Row). e.1) es)) (filter (is_published sheet) (map (λ (e : KeyTexts × Row). e.1) es))))))
    by true later = both _ _ (subst (λ j. T (is_lt (key_cmp k j))) (sym keyed.0) (first _ _ below)) later
    by false later = later

sorted-listed : (sheet : Sheet) (es : List (KeyTexts × Row)) → AreKeyed sheet es → T (is_sorted key_cmp es)
    → T (is_sorted key_cmp (under_keys (rows_listed sheet es)))
sorted-listed sheet [] keyed sorted = tt
sorted-listed sheet (e ∷ es) keyed sorted =
    by (is_published sheet e.1) (sorted-listed sheet es keyed.1 (second _ _ sorted))
  where
    by : (p : Bool) → T (is_sorted key_cmp (under_keys (rows_listed sheet es)))
        → T (is_sorted key_cmp (under_keys (map (row_of_texts sheet) (cond p (e.1 ∷ filter (is_published sheet) (map (λ (e : KeyTexts × Row). e.1) es)) (filter (is_published sheet) (map (λ (e : KeyTexts × Row). e.1) es))))))
    by true later = both _ _ (subst (λ j. T (below_all key_cmp j (under_keys (rows_listed sheet es)))) (sym keyed.0) (below-listed sheet es e.0 keyed.1 (first _ _ sorted))) later
    by false later = later

are-keyed : (table : Table) (sheet : Sheet) → IsSoundTable table → AreKeyed sheet (entries (sheet_rows table sheet))
are-keyed table sheet sound =
    each-found (λ k row. key (row_of_texts sheet row) ≡ k) (entries (sheet_rows table sheet)) (entries_sorted (sheet_rows table sheet))
    (λ k row found. row-keyed table sheet k row sound (get-entries (sheet_rows table sheet) k ∙ found))

-- under each key is what is published of the row that is held there
pub rows-found : (table : Table) (sheet : Sheet) (k : KeyTexts) → IsSoundTable table → row_under (published_rows table sheet) k ≡ published_at table sheet k
rows-found table sheet k sound =
    let es = entries (sheet_rows table sheet) in
    get-from_entries keys_total (under_keys (rows_listed sheet es)) k
    ∙ (find-listed sheet es k (are-keyed table sheet sound) (entries_sorted (sheet_rows table sheet))
    ∙ ap (published_row sheet) (sym (get-entries (sheet_rows table sheet) k)))

-- sorted under their keys
pub rows-sorted : (table : Table) (sheet : Sheet) → IsSoundTable table → T (is_sorted key_cmp (under_keys (published_rows table sheet)))
rows-sorted table sheet sound = sorted-listed sheet (entries (sheet_rows table sheet)) (are-keyed table sheet sound) (entries_sorted (sheet_rows table sheet))

holds-true : (b : Bool) → T b → b ≡ true
holds-true true t = refl
holds-true false t = absurd t

-- and so their keys rise
pub rows-rise : (table : Table) (sheet : Sheet) → IsSoundTable table → KeysRise (map key (published_rows table sheet))
rows-rise table sheet sound = rising_rows (published_rows table sheet) (holds-true _ (rows-sorted table sheet sound))
