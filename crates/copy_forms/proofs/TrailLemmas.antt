-- What a delta says about touched keys, and that it leads from rows to rows.
use Rattle.std.proofs.Common.{◌≡◌, ℕ, zero, suc, ◌+◌, ◌-◌, ◌≤◌, T, Bool, true, false, ◌||◌, cond, Option, None, Some, List, [], ◌∷◌, ◌++◌, length, map, refl, sym, ap, subst, ◌∙◌, arith, length-append}
use Rattle.std.specs.Prelude.{is_some, codes, replicate, unwrap_or}
use Rattle.std.specs.FinMap.{IsAntisymmetric, empty, entries, len-empty, len-entries, entries-from_sorted, entries-insert, entries_sorted, find, from_entries, from_sorted, get, get-from_entries, get-from_sorted, get-insert, get-remove, is_sorted, keys, contains_key-keys, nat_cmp-IsAntisymmetric, same_map, slice_cmp-IsAntisymmetric, values}
use Rattle.std.specs.FinMap.Entries.{below_all, is_some-find, put, by_order}
use Rattle.std.specs.List.{All, AllByRecursion, list_all, list_any}
use Rattle.std.specs.List.Sorted.{IsStrictlySortedBy}
use Rattle.std.specs.Ordering.{eq_by_cmp, is_eq, is_lt}
use Rattle.std.specs.Str.{bytes_eq, is_utf8}
use Rattle.std.specs.declared.cmp.Ordering.{Ordering}
use Rattle.std.proofs.lemmas.Bool.{and_from, and_parts, false≢true}
use Rattle.std.proofs.lemmas.List.{drop_at, length-replicate, nil_from_length, take_at}
use Rattle.std.proofs.lemmas.List.Elements.{All-cons, All-head, All-nil, All-tail}
use Rattle.std.proofs.lemmas.List.Folds.{list_all-append}
use Rattle.std.proofs.lemmas.Str.{IsUtf8-nil, is_utf8-from_IsUtf8}
use Rattle.lei_records.specs.Tables.{KeyTexts, key_cmp}
use Rattle.copy_csv.specs.declared.rows.Change.{Change}
use Rattle.register_words.specs.declared.sheets.Form.{Form}
use Rattle.register_words.specs.declared.sheets.Sheet.{Sheet}
use Rattle.copy_forms.specs.Files.{FitsIn}
use Rattle.copy_forms.specs.Patching.{Keyed, after_change, all_changed, patched, rows_by_key}
use Rattle.copy_csv.specs.Rows.{AreChanges, IsChangeOf, IsRowOfSheet, KeysRise, changed_key, changed_row}
use Rattle.copy_csv.specs.Sheets.{SheetRow, key, key_len, width}
use Rattle.copy_forms.specs.Trails.{IsKeyOf, change_at_key, change_to, dropped_row, is_key_among, keys_in_order, row_under}
use Rattle.copy_csv.proofs.RowLemmas.{key_total}
use Rattle.copy_csv.proofs.WidthLemmas.{fits-alone}

pub key_same : IsAntisymmetric key_cmp
key_same = slice_cmp-IsAntisymmetric (slice_cmp-IsAntisymmetric nat_cmp-IsAntisymmetric)

equal : (o : Ordering) → is_eq o ≡ true → o ≡ Ordering.Equal
equal Ordering.Less e = absurd (false≢true e)
equal Ordering.Equal e = refl
equal Ordering.Greater e = absurd (false≢true e)

less : (o : Ordering) → is_lt o ≡ true → o ≡ Ordering.Less
less Ordering.Less e = refl
less Ordering.Equal e = absurd (false≢true e)
less Ordering.Greater e = absurd (false≢true e)

-- keys that compare as equal are equal
pub tied : (j k : KeyTexts) → eq_by_cmp key_cmp j k ≡ true → j ≡ k
tied j k e = key_same j k (equal (key_cmp j k) e)

-- ---- rows under their keys

-- the row that is found has the key
found : (rows : List SheetRow) (k : KeyTexts) (row : SheetRow) → find key_cmp k (map (λ row. (key row, row)) rows) ≡ Some row → key row ≡ k
found [] k row e = cc
found (x ∷ rows) k row e = by (found rows k row) (eq_by_cmp key_cmp k (key x)) refl e
  where
    by : (find key_cmp k (map (λ row. (key row, row)) rows) ≡ Some row → key row ≡ k) → (b : Bool) → eq_by_cmp key_cmp k (key x) ≡ b
        → cond b (Some x) (find key_cmp k (map (λ row. (key row, row)) rows)) ≡ Some row → key row ≡ k
    by others true is e = ap key (sym (ap (λ r. unwrap_or r x) e)) ∙ sym (tied k (key x) is)
    by others false is e = others e

-- and it is one of the rows
found_good : (P : SheetRow → Type 0) (rows : List SheetRow) (k : KeyTexts) (row : SheetRow) → All P rows
    → find key_cmp k (map (λ row. (key row, row)) rows) ≡ Some row → P row
found_good P [] k row all e = cc
found_good P (x ∷ rows) k row all e = by (found_good P rows k row (All-tail P x rows all)) (eq_by_cmp key_cmp k (key x)) e
  where
    by : (find key_cmp k (map (λ row. (key row, row)) rows) ≡ Some row → P row) → (b : Bool)
        → cond b (Some x) (find key_cmp k (map (λ row. (key row, row)) rows)) ≡ Some row → P row
    by others true e = subst P (ap (λ r. unwrap_or r x) e) (All-head P x rows all)
    by others false e = others e

pub under : (rows : List SheetRow) (k : KeyTexts) → row_under rows k ≡ find key_cmp k (map (λ row. (key row, row)) rows)
under rows k = get-from_entries key_total (map (λ row. (key row, row)) rows) k

-- ---- a change, and many

key_dropped : (sheet : Sheet) (k : KeyTexts) → IsKeyOf sheet k → key (dropped_row sheet k) ≡ k
key_dropped sheet k is = take_at k (replicate (width sheet - key_len sheet) (codes "")) (key_len sheet) is.full

-- the key of a change is the key for which the change was made
key_change : (sheet : Sheet) (now : List SheetRow) (k : KeyTexts) → IsKeyOf sheet k → changed_key (change_at_key sheet now k) ≡ k
key_change sheet now k is = by (row_under now k) (sym (under now k))
  where
    by : (r : Option SheetRow) → find key_cmp k (map (λ row. (key row, row)) now) ≡ r → changed_key (change_to sheet k r) ≡ k
    by None e = key_dropped sheet k is
    by (Some row) e = found now k row e

get_changed : (sheet : Sheet) (now : List SheetRow) (m : Keyed) (j : KeyTexts) → IsKeyOf sheet j → (k : KeyTexts)
    → get (after_change m (change_at_key sheet now j)) k ≡ cond (eq_by_cmp key_cmp k j) (row_under now j) (get m k)
get_changed sheet now m j is k = by (row_under now j) (sym (under now j))
  where
    by : (r : Option SheetRow) → find key_cmp j (map (λ row. (key row, row)) now) ≡ r
        → get (after_change m (change_to sheet j r)) k ≡ cond (eq_by_cmp key_cmp k j) r (get m k)
    by None e = get-remove key_total m (key (dropped_row sheet j)) k
        ∙ ap (λ i. cond (eq_by_cmp key_cmp k i) None (get m k)) (key_dropped sheet j is)
    by (Some row) e = get-insert key_total m (key row) row k
        ∙ ap (λ i. cond (eq_by_cmp key_cmp k i) (Some row) (get m k)) (found now j row e)

get_all : (sheet : Sheet) (now : List SheetRow) (m : Keyed) (ks : List KeyTexts) → All (IsKeyOf sheet) ks → (k : KeyTexts)
    → get (all_changed m (map (change_at_key sheet now) ks)) k ≡ cond (is_key_among k ks) (row_under now k) (get m k)
get_all sheet now m [] good k = refl
get_all sheet now m (j ∷ ks) good k =
    get_all sheet now (after_change m (change_at_key sheet now j)) ks (All-tail (IsKeyOf sheet) j ks good) k
    ∙ ap (cond (is_key_among k ks) (row_under now k)) (get_changed sheet now m j (All-head (IsKeyOf sheet) j ks good) k)
    ∙ by (eq_by_cmp key_cmp k j) (is_key_among k ks) refl
  where
    by : (b t : Bool) → eq_by_cmp key_cmp k j ≡ b
        → cond t (row_under now k) (cond b (row_under now j) (get m k)) ≡ cond (b || t) (row_under now k) (get m k)
    by true true e = refl
    by true false e = ap (row_under now) (sym (tied k j e))
    by false t e = refl

-- ---- the keys of a delta

among_ordered : (touched : List KeyTexts) (k : KeyTexts) → is_key_among k (keys_in_order touched) ≡ is_key_among k touched
among_ordered touched k =
    sym (contains_key-keys (from_entries {R = key_cmp} (map (λ k. (k, k)) touched)) k)
    ∙ ap is_some (get-from_entries key_total (map (λ k. (k, k)) touched) k)
    ∙ is_some-find key_cmp k (map (λ k. (k, k)) touched)
    ∙ ap (list_any (eq_by_cmp key_cmp k)) (firsts touched)
  where
    firsts : (ks : List KeyTexts) → map (λ (e : KeyTexts × KeyTexts). e.0) (map (λ k. (k, k)) ks) ≡ ks
    firsts [] = refl
    firsts (k ∷ ks) = ap (λ l. k ∷ l) (firsts ks)

-- ---- properties of entries in the order of their keys

put-all : (P : KeyTexts → Type 0) (k v : KeyTexts) (es : List (KeyTexts × KeyTexts)) → P k → All P (map (λ (e : KeyTexts × KeyTexts). e.0) es)
    → All P (map (λ (e : KeyTexts × KeyTexts). e.0) (put key_cmp k v es))
put-all P k v [] p all = All-cons P k [] p (All-nil P)
put-all P k v (e ∷ es) p all =
    by (put-all P k v es p (All-tail P e.0 (map (λ (e : KeyTexts × KeyTexts). e.0) es) all)) (key_cmp k e.0)
  where
    by : All P (map (λ (e : KeyTexts × KeyTexts). e.0) (put key_cmp k v es)) → (o : Ordering)
        → All P (map (λ (e : KeyTexts × KeyTexts). e.0) (by_order o ((k, v) ∷ e ∷ es) ((e.0, v) ∷ es) (e ∷ put key_cmp k v es)))
    by others Ordering.Less = All-cons P k (map (λ (e : KeyTexts × KeyTexts). e.0) (e ∷ es)) p all
    by others Ordering.Equal = all
    by others Ordering.Greater = All-cons P e.0 (map (λ (e : KeyTexts × KeyTexts). e.0) (put key_cmp k v es))
        (All-head P e.0 (map (λ (e : KeyTexts × KeyTexts). e.0) es) all) others

ordered-all : (P : KeyTexts → Type 0) (touched : List KeyTexts) → All P touched → All P (keys_in_order touched)
ordered-all P [] all = subst (λ (es : List (KeyTexts × KeyTexts)). All P (map (λ (e : KeyTexts × KeyTexts). e.0) es)) (sym entries-empty) (All-nil P)
  where
    entries-empty : entries {X = KeyTexts} (empty {R = key_cmp}) ≡ []
    entries-empty = nil_from_length (entries {X = KeyTexts} (empty {R = key_cmp}))
        (sym (len-entries (empty {X = KeyTexts} {R = key_cmp})) ∙ len-empty key_cmp KeyTexts)
ordered-all P (k ∷ touched) all =
    subst (λ (es : List (KeyTexts × KeyTexts)). All P (map (λ (e : KeyTexts × KeyTexts). e.0) es))
    (sym (entries-insert key_total (from_entries {R = key_cmp} (map (λ k. (k, k)) touched)) k k))
    (put-all P k k (entries (from_entries {R = key_cmp} (map (λ k. (k, k)) touched))) (All-head P k touched all)
    (ordered-all P touched (All-tail P k touched all)))

below : {X : Type 0} (k : KeyTexts) (es : List (KeyTexts × X)) → below_all key_cmp k es ≡ true
    → AllByRecursion (λ j. key_cmp k j ≡ Ordering.Less) (map (λ (e : KeyTexts × X). e.0) es)
below k [] e = tt
below k (x ∷ es) e = let parts = and_parts (is_lt (key_cmp k x.0)) (below_all key_cmp k es) e in (less (key_cmp k x.0) parts.0, below k es parts.1)

-- the keys of sorted entries rise
rising_entries : {X : Type 0} (es : List (KeyTexts × X)) → is_sorted key_cmp es ≡ true → KeysRise (map (λ (e : KeyTexts × X). e.0) es)
unfolding IsStrictlySortedBy
rising_entries [] e = tt
rising_entries (x ∷ es) e =
    let parts = and_parts (below_all key_cmp x.0 es) (is_sorted key_cmp es) e in (below x.0 es parts.0, rising_entries es parts.1)

above : (k : KeyTexts) (rows : List SheetRow) → AllByRecursion (λ j. key_cmp k j ≡ Ordering.Less) (map key rows)
    → below_all key_cmp k (map (λ row. (key row, row)) rows) ≡ true
above k [] all = refl
above k (x ∷ rows) all = and_from (is_lt (key_cmp k (key x))) (below_all key_cmp k (map (λ row. (key row, row)) rows)) (ap is_lt all.0) (above k rows all.1)

-- and rows with rising keys are sorted under these
sorted_rows : (rows : List SheetRow) → KeysRise (map key rows) → is_sorted key_cmp (map (λ row. (key row, row)) rows) ≡ true
unfolding IsStrictlySortedBy
sorted_rows [] rising = refl
sorted_rows (x ∷ rows) rising =
    and_from (below_all key_cmp (key x) (map (λ row. (key row, row)) rows)) (is_sorted key_cmp (map (λ row. (key row, row)) rows))
    (above (key x) rows rising.0) (sorted_rows rows rising.1)

-- so the rows are the values in this order
pub values_keyed : (rows : List SheetRow) → KeysRise (map key rows) → values (rows_by_key rows) ≡ rows
values_keyed rows rising =
    let sorted : is_sorted key_cmp (map (λ row. (key row, row)) rows) ≡ true = sorted_rows rows rising in
    let t : T (is_sorted key_cmp (map (λ row. (key row, row)) rows)) = subst T (sym sorted) tt in
    let same : rows_by_key rows ≡ from_sorted {R = key_cmp} (map (λ row. (key row, row)) rows) =
    same_map key_total key_same (rows_by_key rows) (from_sorted (map (λ row. (key row, row)) rows))
    (λ q. get-from_entries key_total (map (λ row. (key row, row)) rows) q ∙ sym (get-from_sorted key_cmp (map (λ row. (key row, row)) rows) q t)) in
    ap (λ m. values m) same ∙ ap (map (λ (e : KeyTexts × SheetRow). e.1)) (entries-from_sorted key_cmp (map (λ row. (key row, row)) rows) t) ∙ seconds rows
  where
    seconds : (rows : List SheetRow) → map (λ (e : KeyTexts × SheetRow). e.1) (map (λ row. (key row, row)) rows) ≡ rows
    seconds [] = refl
    seconds (x ∷ rows) = ap (λ l. x ∷ l) (seconds rows)

-- ---- patching leads on

-- rows are patched to other rows by a delta's changes, if the delta covers each key whose row differs
pub leads_over : (sheet : Sheet) (before now : List SheetRow) (touched : List KeyTexts) → KeysRise (map key now) → All (IsKeyOf sheet) touched
    → ((k : KeyTexts) → is_key_among k touched ≡ false → row_under now k ≡ row_under before k)
    → patched before (map (change_at_key sheet now) (keys_in_order touched)) ≡ now
leads_over sheet before now touched rising keys kept =
    let good : All (IsKeyOf sheet) (keys_in_order touched) = ordered-all (IsKeyOf sheet) touched keys in
    let same : all_changed (rows_by_key before) (map (change_at_key sheet now) (keys_in_order touched)) ≡ rows_by_key now =
    same_map key_total key_same (all_changed (rows_by_key before) (map (change_at_key sheet now) (keys_in_order touched))) (rows_by_key now)
    (λ k. get_all sheet now (rows_by_key before) (keys_in_order touched) good k
    ∙ ap (λ t. cond t (row_under now k) (row_under before k)) (among_ordered touched k)
    ∙ settled k (is_key_among k touched) refl) in
    ap (λ m. values m) same ∙ values_keyed now rising
  where
    settled : (k : KeyTexts) (b : Bool) → is_key_among k touched ≡ b → cond b (row_under now k) (row_under before k) ≡ row_under now k
    settled k true e = refl
    settled k false e = sym (kept k e)

-- ---- what is in a delta

-- a row under a key is one of the rows
one_of : (P : SheetRow → Type 0) (now : List SheetRow) (k : KeyTexts) (row : SheetRow) → All P now → row_under now k ≡ Some row → P row
one_of P now k row all e = found_good P now k row all (sym (under now k) ∙ e)

all_empty : (n : ℕ) → list_all (λ text. bytes_eq text (codes "")) (replicate n (codes "")) ≡ true
all_empty zero = refl
all_empty (suc n) = all_empty n

all_utf8 : (n : ℕ) → list_all is_utf8 (replicate n (codes "")) ≡ true
all_utf8 zero = refl
all_utf8 (suc n) = and_from (is_utf8 []) (list_all is_utf8 (replicate n (codes ""))) (is_utf8-from_IsUtf8 [] IsUtf8-nil) (all_utf8 n)

key_fits : (sheet : Sheet) → key_len sheet ≤ width sheet
key_fits Sheet.Lei = omega arith
key_fits Sheet.Rr = omega arith
key_fits Sheet.Repex = omega arith

good_drop : (sheet : Sheet) (k : KeyTexts) → IsKeyOf sheet k → IsChangeOf sheet (Change.Drop (dropped_row sheet k))
good_drop sheet k is =
    let n : ℕ = width sheet - key_len sheet in
    let fits : key_len sheet ≤ width sheet = key_fits sheet in
    let long : length k ≡ key_len sheet = is.full in
    let all : length (k ++ replicate n (codes "")) ≡ length k + n =
    length-append k (replicate n (codes "")) ∙ ap (λ m. length k + m) (length-replicate n (codes "")) in (
      (
        record {
          full = all ∙ omega arith;
          utf8 = list_all-append is_utf8 k (replicate n (codes ""))
              ∙ and_from (list_all is_utf8 k) (list_all is_utf8 (replicate n (codes ""))) is.utf8 (all_utf8 n);
        },
        refl,
      ),
      ap (list_all (λ text. bytes_eq text (codes ""))) (drop_at k (replicate n (codes "")) (key_len sheet) long) ∙ all_empty n,
    )

good_change : (sheet : Sheet) (now : List SheetRow) (k : KeyTexts) → All (IsRowOfSheet sheet) now → IsKeyOf sheet k
    → IsChangeOf sheet (change_at_key sheet now k)
good_change sheet now k rows is = by (row_under now k) refl
  where
    by : (r : Option SheetRow) → row_under now k ≡ r → IsChangeOf sheet (change_to sheet k r)
    by None e = good_drop sheet k is
    by (Some row) e = (one_of (IsRowOfSheet sheet) now k row rows e, tt)

good_changes : (sheet : Sheet) (now : List SheetRow) (ks : List KeyTexts) → All (IsRowOfSheet sheet) now → All (IsKeyOf sheet) ks
    → All (IsChangeOf sheet) (map (change_at_key sheet now) ks)
good_changes sheet now [] rows keys = All-nil (IsChangeOf sheet)
good_changes sheet now (k ∷ ks) rows keys =
    All-cons (IsChangeOf sheet) (change_at_key sheet now k) (map (change_at_key sheet now) ks)
    (good_change sheet now k rows (All-head (IsKeyOf sheet) k ks keys)) (good_changes sheet now ks rows (All-tail (IsKeyOf sheet) k ks keys))

keys_of_changes : (sheet : Sheet) (now : List SheetRow) (ks : List KeyTexts) → All (IsKeyOf sheet) ks
    → map changed_key (map (change_at_key sheet now) ks) ≡ ks
keys_of_changes sheet now [] keys = refl
keys_of_changes sheet now (k ∷ ks) keys = λ i. key_change sheet now k (All-head (IsKeyOf sheet) k ks keys) i
    ∷ keys_of_changes sheet now ks (All-tail (IsKeyOf sheet) k ks keys) i

-- the changes of a delta in the order of their keys
pub are_changes : (sheet : Sheet) (now : List SheetRow) (touched : List KeyTexts) → All (IsRowOfSheet sheet) now → All (IsKeyOf sheet) touched
    → AreChanges sheet (map (change_at_key sheet now) (keys_in_order touched))
are_changes sheet now touched rows keys =
    let good : All (IsKeyOf sheet) (keys_in_order touched) = ordered-all (IsKeyOf sheet) touched keys in
    let ordered = from_entries {R = key_cmp} (map (λ k. (k, k)) touched) in
    let rising : KeysRise (keys_in_order touched) =
    rising_entries (entries (from_entries {R = key_cmp} (map (λ k. (k, k)) touched)))
    (true_of (is_sorted key_cmp (entries (from_entries {R = key_cmp} (map (λ k. (k, k)) touched))))
    (entries_sorted (from_entries {R = key_cmp} (map (λ k. (k, k)) touched)))) in
    record {
      each = good_changes sheet now (keys_in_order touched) rows good;
      rising = subst KeysRise (sym (keys_of_changes sheet now (keys_in_order touched) good)) rising;
    }
  where
    true_of : (b : Bool) → T b → b ≡ true
    true_of true t = refl
    true_of false t = absurd t

-- ---- what files of each width have of a delta

drop-fits : (sheet : Sheet) (form : Form) (wide : Bool) (k : KeyTexts) → IsKeyOf sheet k → FitsIn form wide (dropped_row sheet k)
drop-fits sheet Form.Json wide k is = tt
drop-fits sheet Form.Csv wide k is = fits-alone wide (dropped_row sheet k) (good_drop sheet k is).1

change-fits : (sheet : Sheet) (form : Form) (wide : Bool) (now : List SheetRow) (k : KeyTexts) → All (FitsIn form wide) now → IsKeyOf sheet k
    → FitsIn form wide (changed_row (change_at_key sheet now k))
change-fits sheet form wide now k fit is = by (row_under now k) refl
  where
    by : (r : Option SheetRow) → row_under now k ≡ r → FitsIn form wide (changed_row (change_to sheet k r))
    by None e = drop-fits sheet form wide k is
    by (Some row) e = one_of (FitsIn form wide) now k row fit e

changes-fit : (sheet : Sheet) (form : Form) (wide : Bool) (now : List SheetRow) (ks : List KeyTexts) → All (FitsIn form wide) now
    → All (IsKeyOf sheet) ks → All (λ change. FitsIn form wide (changed_row change)) (map (change_at_key sheet now) ks)
changes-fit sheet form wide now [] fit keys = All-nil (λ change. FitsIn form wide (changed_row change))
changes-fit sheet form wide now (k ∷ ks) fit keys =
    All-cons (λ change. FitsIn form wide (changed_row change)) (change_at_key sheet now k) (map (change_at_key sheet now) ks)
    (change-fits sheet form wide now k fit (All-head (IsKeyOf sheet) k ks keys)) (changes-fit sheet form wide now ks fit (All-tail (IsKeyOf sheet) k ks keys))

-- the changes of a delta, in the order of their keys, fit a width if all rows do
pub ordered-fit : (sheet : Sheet) (form : Form) (wide : Bool) (now : List SheetRow) (touched : List KeyTexts) → All (FitsIn form wide) now
    → All (IsKeyOf sheet) touched → All (λ change. FitsIn form wide (changed_row change)) (map (change_at_key sheet now) (keys_in_order touched))
ordered-fit sheet form wide now touched fit keys =
    changes-fit sheet form wide now (keys_in_order touched) fit (ordered-all (IsKeyOf sheet) touched keys)
