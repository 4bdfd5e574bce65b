-- Keeping: how a kept trail changes when a publication follows.
use Rattle.std.proofs.Common.{◌≡◌, ℤ, Bool, true, false, ◌&&◌, ◌||◌, cond, Option, None, Some, List, [], ◌∷◌, T, map, refl, sym, ap, subst, ◌∙◌}
use Rattle.std.specs.Prelude.{IfSome, IsTrue, is_some, option_map, unwrap_or}
use Rattle.std.specs.Cmp.{tied_itself}
use Rattle.std.specs.FinMap.{entries, entries_sorted, get, get-entries, get-from_entries, get-insert, get-remove, values}
use Rattle.std.specs.FinMap.Entries.{below_all, find, is_sorted, same_entries}
use Rattle.std.specs.List.{All, AllByRecursion}
use Rattle.std.specs.List.Sorted.{IsStrictlySortedBy}
use Rattle.std.specs.Ordering.{eq_by_cmp, is_eq, is_lt}
use Rattle.std.specs.declared.cmp.Ordering.{Ordering}
use Rattle.std.proofs.lemmas.Bool.{false≢true}
use Rattle.std.proofs.lemmas.List.{take_at}
use Rattle.std.proofs.lemmas.List.Elements.{All-cons, All-head, All-nil, All-tail}
use Rattle.lei_shapes.specs.Moment.{IsMoment}
use Rattle.lei_records.specs.declared.view.RowKey.{RowKey}
use Rattle.lei_records.specs.Tables.{KeyTexts, key_cmp}
use Rattle.copy_csv.specs.declared.rows.Change.{Change}
use Rattle.register_words.specs.declared.sheets.Sheet.{Sheet}
use Rattle.copy_csv.specs.Rows.{AreRows, IsRowOfSheet, KeysRise}
use Rattle.copy_csv.specs.Sheets.{SheetRow, fits, key, key_len}
use Rattle.copy_csv.proofs.RowLemmas.{key_total}
use Rattle.copy_forms.specs.Files.{row_renderings}
use Rattle.copy_forms.specs.Patching.{Keyed, after_change, all_changed, patched, rows_by_key}
use Rattle.copy_forms.specs.Trails.{IsKeyOf, IsNextPublication, Publication, change_to, dropped_row, is_key_among, row_under}
use Rattle.golden_shelf.specs.Changes.{AreOwnChanges, ArePlain, IsIssued, IsOwnChange, IsPlain, IsRowUnder, KeyChanges, changes_of, in_sheet, touched_by}
use Rattle.golden_shelf.specs.Keys.{is_key_of, key_texts, sheet_of_key}
use Rattle.golden_shelf.specs.Lines.{LineChange, keyed_line, with_lines}
use Rattle.golden_shelf.proofs.SideLemmas.{after, after_none, find_with_lines, is_changed, tied}
use Rattle.golden_shelf.proofs.Woven.{both, find_none, key_same, less, sorted_with_lines}

-- ---- the changes of a sheet as pairs

abbrev pub Pair : Type 0
Pair = KeyTexts × Option SheetRow

abbrev pub pairs_of : Sheet → KeyChanges → List Pair
pairs_of sheet changes = map (λ c. (key_texts c.0, c.1)) (in_sheet sheet changes)

abbrev pub to_change : Sheet → Pair → Change
to_change sheet p = change_to sheet p.0 p.1

abbrev pub to_line : Pair → LineChange
to_line p = (p.0, option_map row_renderings p.1)

pub record IsGood (sheet : Sheet) (p : Pair) : Type 0 where
  pub key_is : IsKeyOf sheet p.0
  pub row_is : IfSome p.1 (IsRowUnder sheet p.0)

map_map : {X Y Z : Type 0} (g : Y → Z) (h : X → Y) (xs : List X) → map (λ x. g (h x)) xs ≡ map g (map h xs)
map_map g h [] = refl
map_map g h (x ∷ xs) = ap (λ l. g (h x) ∷ l) (map_map g h xs)

pub changes_pairs : (sheet : Sheet) (changes : KeyChanges) → changes_of sheet changes ≡ map (to_change sheet) (pairs_of sheet changes)
changes_pairs sheet changes = map_map (to_change sheet) (λ c. (key_texts c.0, c.1)) (in_sheet sheet changes)

pub touched_pairs : (sheet : Sheet) (changes : KeyChanges) → touched_by sheet changes ≡ map (λ (p : Pair). p.0) (pairs_of sheet changes)
touched_pairs sheet changes = map_map (λ (p : Pair). p.0) (λ c. (key_texts c.0, c.1)) (in_sheet sheet changes)

of_sheet : (sheet : Sheet) (k : RowKey) → is_key_of sheet k ≡ true → sheet_of_key k ≡ sheet
of_sheet Sheet.Lei (RowKey.Rec lei) e = refl
of_sheet Sheet.Lei (RowKey.Rel start kind end) e = absurd (false≢true e)
of_sheet Sheet.Lei (RowKey.Exc lei category) e = absurd (false≢true e)
of_sheet Sheet.Rr (RowKey.Rec lei) e = absurd (false≢true e)
of_sheet Sheet.Rr (RowKey.Rel start kind end) e = refl
of_sheet Sheet.Rr (RowKey.Exc lei category) e = absurd (false≢true e)
of_sheet Sheet.Repex (RowKey.Rec lei) e = absurd (false≢true e)
of_sheet Sheet.Repex (RowKey.Rel start kind end) e = absurd (false≢true e)
of_sheet Sheet.Repex (RowKey.Exc lei category) e = refl

good_pair : (sheet : Sheet) (c : RowKey × Option SheetRow) → sheet_of_key c.0 ≡ sheet → IsOwnChange c → IsGood sheet (key_texts c.0, c.1)
good_pair sheet c is own =
    record { key_is = subst (λ s. IsKeyOf s (key_texts c.0)) is own.key_is; row_is = subst (λ s. IfSome c.1 (IsRowUnder s (key_texts c.0))) is own.row_is }

pub good_pairs : (sheet : Sheet) (changes : KeyChanges) → AllByRecursion IsOwnChange changes → AllByRecursion (IsGood sheet) (pairs_of sheet changes)
good_pairs sheet [] own = tt
good_pairs sheet (c ∷ cs) own = by (good_pairs sheet cs own.1) (is_key_of sheet c.0) refl
  where
    by : AllByRecursion (IsGood sheet) (pairs_of sheet cs) → (b : Bool) → is_key_of sheet c.0 ≡ b
        → AllByRecursion (IsGood sheet) (map (λ c. (key_texts c.0, c.1)) (cond b (c ∷ in_sheet sheet cs) (in_sheet sheet cs)))
    by later true e = (good_pair sheet c (of_sheet sheet c.0 e) own.0, later)
    by later false e = later

-- ---- rows after changes

key_dropped : (sheet : Sheet) (k : KeyTexts) → IsKeyOf sheet k → key (dropped_row sheet k) ≡ k
key_dropped sheet k is = take_at k _ (key_len sheet) is.full

changed_one : (sheet : Sheet) (m : Keyed) (p : Pair) → IsGood sheet p → (k : KeyTexts)
    → get (after_change m (to_change sheet p)) k ≡ cond (eq_by_cmp key_cmp k p.0) p.1 (get m k)
changed_one sheet m (j, None) good k = get-remove key_total m (key (dropped_row sheet j)) k
    ∙ ap (λ i. cond (eq_by_cmp key_cmp k i) None (get m k)) (key_dropped sheet j good.key_is)
changed_one sheet m (j, Some row) good k = get-insert key_total m (key row) row k
    ∙ ap (λ i. cond (eq_by_cmp key_cmp k i) (Some row) (get m k)) good.row_is.key_is

get_all : (sheet : Sheet) (m : Keyed) (ps : List Pair) → AllByRecursion (IsGood sheet) ps → (k : KeyTexts)
    → get (all_changed m (map (to_change sheet) ps)) k ≡ after ps k (get m k)
get_all sheet m [] good k = refl
get_all sheet m (p ∷ ps) good k =
    get_all sheet (after_change m (to_change sheet p)) ps good.1 k ∙ ap (after ps k) (changed_one sheet m p good.0 k)

some_of : {X : Type 0} (Q : X → Type 0) (o : Option X) (x : X) → IfSome o Q → o ≡ Some x → Q x
some_of Q None x i e = absurd (false≢true (ap is_some e))
some_of Q (Some y) x i e = subst Q (ap (λ o. unwrap_or o y) e) i

after_good : (sheet : Sheet) (ps : List Pair) (k : KeyTexts) (found : Option SheetRow) → AllByRecursion (IsGood sheet) ps
    → ((row : SheetRow) → found ≡ Some row → IsRowUnder sheet k row) → (row : SheetRow) → after ps k found ≡ Some row → IsRowUnder sheet k row
after_good sheet [] k found good was row e = was row e
after_good sheet (p ∷ ps) k found good was row e =
    after_good sheet ps k (cond (eq_by_cmp key_cmp k p.0) p.1 found) good.1 (by (eq_by_cmp key_cmp k p.0) refl) row e
  where
    by : (b : Bool) → eq_by_cmp key_cmp k p.0 ≡ b → (row : SheetRow) → cond b p.1 found ≡ Some row → IsRowUnder sheet k row
    by true is row e = subst (λ j. IsRowUnder sheet j row) (sym (tied k p.0 is)) (some_of (IsRowUnder sheet p.0) p.1 row good.0.row_is e)
    by false is row e = was row e

-- rows under their keys
abbrev pub under_keys : List SheetRow → List (KeyTexts × SheetRow)
under_keys rows = map (λ row. (key row, row)) rows

rows_good : (sheet : Sheet) (rows : List SheetRow) → All (IsRowOfSheet sheet) rows → (k : KeyTexts) (row : SheetRow)
    → find key_cmp k (under_keys rows) ≡ Some row → IsRowUnder sheet k row
rows_good sheet [] all k row e = absurd (false≢true (ap is_some e))
rows_good sheet (x ∷ rows) all k row e =
    by (rows_good sheet rows (All-tail (IsRowOfSheet sheet) x rows all) k row) (eq_by_cmp key_cmp k (key x)) refl e
  where
    by : (find key_cmp k (under_keys rows) ≡ Some row → IsRowUnder sheet k row) → (b : Bool) → eq_by_cmp key_cmp k (key x) ≡ b
        → cond b (Some x) (find key_cmp k (under_keys rows)) ≡ Some row → IsRowUnder sheet k row
    by later true is e =
        let same : x ≡ row = ap (λ r. unwrap_or r x) e in
        record { row_is = subst (IsRowOfSheet sheet) same (All-head (IsRowOfSheet sheet) x rows all); key_is = ap key (sym same) ∙ sym (tied k (key x) is) }
    by later false is e = later e

-- ---- entries

each_entry : {X : Type 0} (P : KeyTexts → X → Type 0) (es : List (KeyTexts × X)) → is_sorted key_cmp es ≡ true
    → ((k : KeyTexts) (x : X) → find key_cmp k es ≡ Some x → P k x) → AllByRecursion (λ e. P e.0 e.1) es
each_entry P [] sorted f = tt
each_entry {X = X} P (e ∷ es) sorted f =
    let parts = both (below_all key_cmp e.0 es) (is_sorted key_cmp es) sorted in (
      f e.0 e.1 (ap (λ o. cond (is_eq o) (Some e.1) (find key_cmp e.0 es)) (tied_itself key_total e.0)),
      each_entry P es parts.1 (λ k x is. f k x (later parts.0 k x is (eq_by_cmp key_cmp k e.0) refl)),
    )
  where
    later : below_all key_cmp e.0 es ≡ true → (k : KeyTexts) (x : X) → find key_cmp k es ≡ Some x → (b : Bool) → eq_by_cmp key_cmp k e.0 ≡ b
        → cond (eq_by_cmp key_cmp k e.0) (Some e.1) (find key_cmp k es) ≡ Some x
    later below k x is true t =
        absurd (false≢true (ap is_some (sym (ap (λ j. find key_cmp j es) (tied k e.0 t) ∙ find_none e.0 es below) ∙ is)))
    later below k x is false t = ap (λ b. cond b (Some e.1) (find key_cmp k es)) t ∙ is

module _ (sheet : Sheet) where
  abbrev AreUnder : List (KeyTexts × SheetRow) → Type 0
  AreUnder es = AllByRecursion (λ e. IsRowUnder sheet e.0 e.1) es

  values_entries : (es : List (KeyTexts × SheetRow)) → AreUnder es → under_keys (map (λ (e : KeyTexts × SheetRow). e.1) es) ≡ es
  values_entries [] are = refl
  values_entries (e ∷ es) are = ap (λ k. (k, e.1) ∷ under_keys (map (λ (e : KeyTexts × SheetRow). e.1) es)) are.0.key_is
      ∙ ap (λ l. e ∷ l) (values_entries es are.1)

  values_rows : (es : List (KeyTexts × SheetRow)) → AreUnder es → All (IsRowOfSheet sheet) (map (λ (e : KeyTexts × SheetRow). e.1) es)
  values_rows [] are = All-nil (IsRowOfSheet sheet)
  values_rows (e ∷ es) are = All-cons (IsRowOfSheet sheet) e.1 (map (λ (e : KeyTexts × SheetRow). e.1) es) are.0.row_is (values_rows es are.1)

-- the line under a key has the rendered texts of the row under it
pub find_lines : (rows : List SheetRow) (k : KeyTexts) → find key_cmp k (map keyed_line rows) ≡ option_map row_renderings (find key_cmp k (under_keys rows))
find_lines [] k = refl
find_lines (x ∷ rows) k = by (eq_by_cmp key_cmp k (key x)) (find_lines rows k)
  where
    by : (b : Bool) → find key_cmp k (map keyed_line rows) ≡ option_map row_renderings (find key_cmp k (under_keys rows))
        → cond b (Some (row_renderings x)) (find key_cmp k (map keyed_line rows)) ≡ option_map row_renderings (cond b (Some x) (find key_cmp k (under_keys rows)))
    by true later = refl
    by false later = later

below_lines : (k : KeyTexts) (rows : List SheetRow) → below_all key_cmp k (map keyed_line rows) ≡ below_all key_cmp k (under_keys rows)
below_lines k [] = refl
below_lines k (x ∷ rows) = ap (λ b. is_lt (key_cmp k (key x)) && b) (below_lines k rows)

sorted_lines : (rows : List SheetRow) → is_sorted key_cmp (map keyed_line rows) ≡ is_sorted key_cmp (under_keys rows)
sorted_lines [] = refl
sorted_lines (x ∷ rows) = ap (λ b. b && is_sorted key_cmp (map keyed_line rows)) (below_lines (key x) rows)
    ∙ ap (λ b. below_all key_cmp (key x) (under_keys rows) && b) (sorted_lines rows)

pub joined : (a b : Bool) → a ≡ true → b ≡ true → (a && b) ≡ true
joined true b p q = q
joined false b p q = p

above : (k : KeyTexts) (rows : List SheetRow) → AllByRecursion (λ j. key_cmp k j ≡ Ordering.Less) (map key rows) → below_all key_cmp k (under_keys rows) ≡ true
above k [] all = refl
above k (x ∷ rows) all = joined (is_lt (key_cmp k (key x))) (below_all key_cmp k (under_keys rows)) (ap is_lt all.0) (above k rows all.1)

sorted_rows : (rows : List SheetRow) → KeysRise (map key rows) → is_sorted key_cmp (under_keys rows) ≡ true
unfolding IsStrictlySortedBy
sorted_rows [] rising = refl
sorted_rows (x ∷ rows) rising =
    joined (below_all key_cmp (key x) (under_keys rows)) (is_sorted key_cmp (under_keys rows)) (above (key x) rows rising.0) (sorted_rows rows rising.1)

below_keys : (k : KeyTexts) (rows : List SheetRow) → below_all key_cmp k (under_keys rows) ≡ true → AllByRecursion (λ j. key_cmp k j ≡ Ordering.Less) (map key rows)
below_keys k [] e = tt
below_keys k (x ∷ rows) e =
    let parts = both (is_lt (key_cmp k (key x))) (below_all key_cmp k (under_keys rows)) e in (less (key_cmp k (key x)) parts.0, below_keys k rows parts.1)

pub rising_rows : (rows : List SheetRow) → is_sorted key_cmp (under_keys rows) ≡ true → KeysRise (map key rows)
unfolding IsStrictlySortedBy
rising_rows [] e = tt
rising_rows (x ∷ rows) e =
    let parts = both (below_all key_cmp (key x) (under_keys rows)) (is_sorted key_cmp (under_keys rows)) e in
    (below_keys (key x) rows parts.0, rising_rows rows parts.1)

after_lines : (ps : List Pair) (k : KeyTexts) (found : Option SheetRow) → after (map to_line ps) k (option_map row_renderings found) ≡ option_map row_renderings (after ps k found)
after_lines [] k found = refl
after_lines (p ∷ ps) k found =
    ap (after (map to_line ps) k) (by (eq_by_cmp key_cmp k p.0)) ∙ after_lines ps k (cond (eq_by_cmp key_cmp k p.0) p.1 found)
  where
    by : (b : Bool) → cond b (option_map row_renderings p.1) (option_map row_renderings found) ≡ option_map row_renderings (cond b p.1 found)
    by true = refl
    by false = refl

tells : (b : Bool) → T b → b ≡ true
tells true t = refl
tells false t = absurd t

-- ---- a sheet after changes

-- what is known of the rows after changes
pub record AreNewRows (sheet : Sheet) (rows : List SheetRow) (ps : List Pair) (after_all : List SheetRow) : Type 0 where
  pub rows_are : AreRows sheet after_all
  pub found : (k : KeyTexts) → row_under after_all k ≡ after ps k (row_under rows k)
  pub lines_are : with_lines (map keyed_line rows) (map to_line ps) ≡ map keyed_line after_all

pub new_rows : (sheet : Sheet) (rows : List SheetRow) (ps : List Pair) → AreRows sheet rows → AllByRecursion (IsGood sheet) ps
    → AreNewRows sheet rows ps (patched rows (map (to_change sheet) ps))
new_rows sheet rows ps are good =
    let m : Keyed = all_changed (rows_by_key rows) (map (to_change sheet) ps) in
    let under : (k : KeyTexts) → get (rows_by_key rows) k ≡ find key_cmp k (under_keys rows) = λ k. get-from_entries key_total (under_keys rows) k in
    let gets : (k : KeyTexts) → get m k ≡ after ps k (get (rows_by_key rows) k) = get_all sheet (rows_by_key rows) ps good in
    let sorted : is_sorted key_cmp (entries m) ≡ true = tells _ (entries_sorted m) in
    let each : AllByRecursion (λ e. IsRowUnder sheet e.0 e.1) (entries m) =
    each_entry (IsRowUnder sheet) (entries m) sorted (λ k row e. after_good sheet ps k (get (rows_by_key rows) k) good
    (λ row e. rows_good sheet rows are.each k row (sym (under k) ∙ e)) row (sym (gets k) ∙ get-entries m k ∙ e)) in
    let same : under_keys (values m) ≡ entries m = values_entries sheet (entries m) each in
    let sorted_values : is_sorted key_cmp (under_keys (values m)) ≡ true = ap (is_sorted key_cmp) same ∙ sorted in
    let finds : (k : KeyTexts) → find key_cmp k (under_keys (values m)) ≡ get m k = λ k. ap (find key_cmp k) same ∙ sym (get-entries m k) in
    record {
      rows_are = record { each = values_rows sheet (entries m) each; rising = rising_rows (values m) sorted_values };
      found = λ k. get-from_entries key_total (under_keys (values m)) k ∙ finds k ∙ gets k;
      lines_are =
          same_entries key_cmp key_total key_same (with_lines (map keyed_line rows) (map to_line ps)) (map keyed_line (values m))
          (subst T (sym (sorted_with_lines (map keyed_line rows) (map to_line ps) (sorted_lines rows ∙ sorted_rows rows are.rising))) tt)
          (subst T (sym (sorted_lines (values m) ∙ sorted_values)) tt)
          (λ k. find_with_lines (map keyed_line rows) (map to_line ps) k
          ∙ ap (after (map to_line ps) k) (find_lines rows k ∙ ap (option_map row_renderings) (sym (under k)))
          ∙ after_lines ps k (get (rows_by_key rows) k)
          ∙ ap (option_map row_renderings) (sym (finds k ∙ gets k))
          ∙ sym (find_lines (values m) k));
    }

-- ---- a property of all rows after changes

-- the row under a key has a property if the earlier row and those of the changes have it
after_such : (P : SheetRow → Type 0) (ps : List Pair) (k : KeyTexts) (found : Option SheetRow)
    → AllByRecursion (λ (p : Pair). IfSome p.1 P) ps → ((row : SheetRow) → found ≡ Some row → P row) → (row : SheetRow)
    → after ps k found ≡ Some row → P row
after_such P [] k found such was row e = was row e
after_such P (p ∷ ps) k found such was row e =
    after_such P ps k (cond (eq_by_cmp key_cmp k p.0) p.1 found) such.1 (by (eq_by_cmp key_cmp k p.0)) row e
  where
    by : (b : Bool) (row : SheetRow) → cond b p.1 found ≡ Some row → P row
    by true row e = some_of P p.1 row such.0 e
    by false row e = was row e

-- a row that is found under a key has a property of all rows
found_such : (P : SheetRow → Type 0) (rows : List SheetRow) → All P rows → (k : KeyTexts) (row : SheetRow)
    → find key_cmp k (under_keys rows) ≡ Some row → P row
found_such P [] all k row e = absurd (false≢true (ap is_some e))
found_such P (x ∷ rows) all k row e = by (found_such P rows (All-tail P x rows all) k row) (eq_by_cmp key_cmp k (key x)) e
  where
    by : (find key_cmp k (under_keys rows) ≡ Some row → P row) → (b : Bool) → cond b (Some x) (find key_cmp k (under_keys rows)) ≡ Some row → P row
    by later true e = subst P (ap (λ r. unwrap_or r x) e) (All-head P x rows all)
    by later false e = later e

-- and all rows have a property if each row that is found has it
such_rows : (P : SheetRow → Type 0) (rows : List SheetRow) → KeysRise (map key rows)
    → ((k : KeyTexts) (row : SheetRow) → find key_cmp k (under_keys rows) ≡ Some row → P row) → All P rows
such_rows P rows rising each = listed rows (each_entry (λ k row. P row) (under_keys rows) (sorted_rows rows rising) each)
  where
    listed : (rows : List SheetRow) → AllByRecursion (λ (e : KeyTexts × SheetRow). P e.1) (under_keys rows) → All P rows
    listed [] all = All-nil P
    listed (x ∷ rows) all = All-cons P x rows all.0 (listed rows all.1)

stay_such : (P : SheetRow → Type 0) (sheet : Sheet) (rows : List SheetRow) (ps : List Pair) (after_all : List SheetRow)
    → AreNewRows sheet rows ps after_all → All P rows → AllByRecursion (λ (p : Pair). IfSome p.1 P) ps → All P after_all
stay_such P sheet rows ps after_all are old such =
    such_rows P after_all are.rows_are.rising
    (λ k row e. after_such P ps k (row_under rows k) such
    (λ row e. found_such P rows old k row (sym (get-from_entries key_total (under_keys rows) k) ∙ e)) row
    (sym (are.found k) ∙ get-from_entries key_total (under_keys after_all) k ∙ e))

-- the row has nothing in the columns that only a wide file has
abbrev pub IsPlainRow : SheetRow → Type 0
IsPlainRow row = IsTrue (fits false row)

plain_pairs : (changes : KeyChanges) → AllByRecursion IsPlain changes
    → AllByRecursion (λ (p : Pair). IfSome p.1 IsPlainRow) (map (λ c. (key_texts c.0, c.1)) changes)
plain_pairs [] all = tt
plain_pairs (c ∷ changes) all = (all.0, plain_pairs changes all.1)

-- ---- the publication that follows

-- the rows of a publication are rows of their sheets, and plain if it is narrow
pub record Stands (publication : Publication) : Type 0 where
  pub rows_are : (sheet : Sheet) → AreRows sheet (publication.rows sheet)
  pub plain : publication.wide ≡ false → All IsPlainRow (publication.rows Sheet.Lei)

-- if a publication is narrow, so is the one before it
narrow_before : (before wide : Bool) → (before ≡ true → wide ≡ true) → wide ≡ false → before ≡ false
narrow_before true wide widens narrow = absurd (false≢true (sym narrow ∙ widens refl))
narrow_before false wide widens narrow = refl

changed_is : (k : KeyTexts) (ps : List Pair) → is_changed k ps ≡ is_key_among k (map (λ (p : Pair). p.0) ps)
changed_is k [] = refl
changed_is k (p ∷ ps) = ap (λ b. eq_by_cmp key_cmp k p.0 || b) (changed_is k ps)

keys_good : (sheet : Sheet) (ps : List Pair) → AllByRecursion (IsGood sheet) ps → All (IsKeyOf sheet) (map (λ (p : Pair). p.0) ps)
keys_good sheet [] good = All-nil (IsKeyOf sheet)
keys_good sheet (p ∷ ps) good = All-cons (IsKeyOf sheet) p.0 (map (λ (p : Pair). p.0) ps) good.0.key_is (keys_good sheet ps good.1)

pub follows : (before : Publication) (moment : ℤ) (wide : Bool) (changes : KeyChanges) (next : Publication) → Stands before
    → IsMoment moment → AreOwnChanges changes → (before.wide ≡ true → wide ≡ true) → (wide ≡ false → ArePlain changes)
    → IsIssued before.rows moment wide changes next
    → ((sheet : Sheet) → AreNewRows sheet (before.rows sheet) (pairs_of sheet changes) (next.rows sheet)) × IsNextPublication before next
follows before moment wide changes next stands is own widens plain issued =
    let news : (sheet : Sheet) → AreNewRows sheet (before.rows sheet) (pairs_of sheet changes) (next.rows sheet) = λ sheet.
    subst (AreNewRows sheet (before.rows sheet) (pairs_of sheet changes))
    (sym (issued.rows_are sheet ∙ ap (patched (before.rows sheet)) (changes_pairs sheet changes)))
    (new_rows sheet (before.rows sheet) (pairs_of sheet changes) (stands.rows_are sheet) (good_pairs sheet changes own.each)) in (
      news,
      record {
        moment_is = subst IsMoment (sym issued.moment_is) is;
        rows_are = λ sheet. (news sheet).rows_are;
        keys_are = λ sheet. subst (All (IsKeyOf sheet)) (sym (issued.touched_are sheet ∙ touched_pairs sheet changes))
            (keys_good sheet (pairs_of sheet changes) (good_pairs sheet changes own.each));
        kept = λ sheet k un. (news sheet).found k ∙ after_none (pairs_of sheet changes) k (row_under (before.rows sheet) k)
            (changed_is k (pairs_of sheet changes) ∙ ap (is_key_among k) (sym (issued.touched_are sheet ∙ touched_pairs sheet changes)) ∙ un);
        widens = λ before_wide. issued.wide_is ∙ widens before_wide;
        plain = λ next_narrow. let narrow : wide ≡ false = sym issued.wide_is ∙ next_narrow in
            stay_such IsPlainRow Sheet.Lei (before.rows Sheet.Lei) (pairs_of Sheet.Lei changes) (next.rows Sheet.Lei) (news Sheet.Lei)
            (stands.plain (narrow_before before.wide wide widens narrow)) (plain_pairs (in_sheet Sheet.Lei changes) (plain narrow));
      },
    )
