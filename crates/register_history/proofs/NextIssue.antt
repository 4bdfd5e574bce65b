-- The changes of the next publication lead from the rows of the latest one to its own.
use Rattle.std.proofs.Common.{◌≡◌, ℕ, ◌&&◌, ◌||◌, nat_lt, ℤ, not, List, [], ◌∷◌, ◌++◌, length, map, Bool, true, false, cond, Option, Some, None, option_map, refl, sym, ap, subst, ◌∙◌, T}
use Rattle.std.specs.Prelude.{flat_map, is_some}
use Rattle.std.specs.FinMap.{entries-from_sorted, from_sorted, get, get-from_entries, get-from_sorted, get-insert, get-remove, same_map, values}
use Rattle.std.specs.FinMap.Entries.{below_all, find, is_sorted}
use Rattle.std.specs.List.{AllByRecursion}
use Rattle.std.specs.List.Sorted.{IsStrictlySortedBy}
use Rattle.std.specs.Ordering.{eq_by_cmp, is_eq, is_lt, nat_cmp, ordering_then}
use Rattle.std.specs.Cmp.{tied_itself, tied_then}
use Rattle.std.specs.Cmp.Lexicographic.{nat_list_eq_equiv, slice_cmp}
use Rattle.std.specs.Str.{bytes_eq}
use Rattle.std.specs.declared.cmp.Ordering.{Ordering}
use Rattle.std.specs.declared.cmp.Ordering.TheVariants.{Less}
use Rattle.std.proofs.lemmas.Bool.{le-leb}
use Rattle.std.proofs.lemmas.Cmp.{nat_list_cmp_total}
use Rattle.std.proofs.lemmas.List.{take_at}
use Rattle.std.proofs.lemmas.Map.Text.{is_eq-slice_cmp}
use Rattle.authority_rules.proofs.HolderLemmas.{bytes_same, keys_total, same_key}
use Rattle.authority_rules.proofs.KeyLemmas.{keys_antisymmetric}
use Rattle.lei_values.specs.declared.entry.KeptEntry.{KeptEntry}
use Rattle.lei_records.specs.declared.item.Item.{Item}
use Rattle.lei_records.specs.declared.view.RowKey.{RowKey}
use Rattle.lei_records.specs.Relations.{registration_in}
use Rattle.lei_records.specs.Tables.{KeyTexts, key_cmp, row_key}
use Rattle.register_words.specs.declared.sheets.Sheet.{Sheet}
use Rattle.copy_csv.specs.Rows.{KeysRise}
use Rattle.copy_csv.specs.Sheets.{SheetRow, key, key_len, row_of_texts}
use Rattle.copy_forms.specs.Patching.{Keyed, after_change, all_changed, patched, rows_by_key}
use Rattle.copy_forms.specs.Trails.{change_at_key as now_under, change_to, dropped_row, is_key_among, row_under}
use Rattle.golden_shelf.specs.Changes.{IsIssued, KeyChanges, changes_of, in_sheet, touched_by}
use Rattle.golden_shelf.specs.Keys.{is_key_of, key_texts, sheet_of_key}
use Rattle.golden_shelf.specs.Shelves.{latest_rows}
use Rattle.golden_shelf.proofs.Keeping.{under_keys}
use Rattle.register_table.specs.declared.touched.Touched.{Touched}
use Rattle.register_table.specs.Cells.{AreOwnItems, IsItemOf}
use Rattle.register_table.specs.Held.{Cell, Held, cell_key, record_kind, relation_kind, row_in}
use Rattle.register_table.specs.Touched.{cell_under_key, is_touched, touched}
use Rattle.register_table.specs.Undos.{row_in_item as item_row}
use Rattle.register_table.proofs.StampLemmas.{only, touched-find, touched-sorted}
use Rattle.upload_ledger.specs.History.{History, is_publication}
use Rattle.register_words.specs.declared.limits.Limits.{Limits}
use Rattle.register_history.specs.Legal.{Legal}
use Rattle.register_history.specs.Standing.{AreRowCells}
use Rattle.register_history.specs.Publications.{are_wide_rules, cell_kind, is_annulled_relation, key_within, keys_touched, last_published, publication_by, published_rows, trail}
use Rattle.register_history.specs.Publishing.{AreNextChanges, row_change_of, row_published}
use Rattle.register_history.specs.Register.{after, held_after}
use Rattle.register_history.specs.State.{office_of}
use Rattle.register_history.proofs.Finding.{first, second}
use Rattle.register_history.proofs.Stored.{held-stands}
use Rattle.register_history.proofs.PublishedRows.{each-found, published_row, rows-found, rows-sorted}
use Rattle.register_history.proofs.Registers.{after-fit}
use Rattle.register_history.proofs.UntouchedKeys.{cell_at, is_new, legal-keeps, published-cell}

-- ---- the keys of a sheet that were touched

-- the keys of a sheet among cells
abbrev pub keys_among : Sheet → List (KeyTexts × Cell) → List KeyTexts
keys_among sheet es = flat_map (λ cell. key_within sheet cell.0) es

-- two keys are equal if their first texts are, and those after them
more-texts : (a b : List ℕ) (front rest : KeyTexts) → eq_by_cmp key_cmp (a ∷ front) (b ∷ rest) ≡ (bytes_eq b a && eq_by_cmp key_cmp front rest)
more-texts a b front rest =
    sym (tied_then (slice_cmp nat_cmp a b) (key_cmp front rest))
    ∙ ap (λ t. t && eq_by_cmp key_cmp front rest) (is_eq-slice_cmp a b ∙ nat_list_eq_equiv.symm a b)

pub among-keys : (sheet : Sheet) (es : List (KeyTexts × Cell)) (k : KeyTexts) → is_key_among k (keys_among sheet es) ≡ is_some (find key_cmp (cell_at sheet k) es)
among-keys sheet [] k = refl
among-keys sheet (([], cell) ∷ es) k = among-keys sheet es k
among-keys sheet ((kind ∷ own, cell) ∷ es) k =
    by (bytes_eq kind (cell_kind sheet)) (among-keys sheet es k)
    ∙ ap (λ b. is_some (cond b (Some cell) (find key_cmp (cell_at sheet k) es))) (sym (more-texts (cell_kind sheet) kind k own))
  where
    tells : (t : Bool) → is_key_among k (keys_among sheet es) ≡ is_some (find key_cmp (cell_at sheet k) es)
        → (t || is_key_among k (keys_among sheet es)) ≡ is_some (cond t (Some cell) (find key_cmp (cell_at sheet k) es))
    tells true later = refl
    tells false later = later

    by : (b : Bool) → is_key_among k (keys_among sheet es) ≡ is_some (find key_cmp (cell_at sheet k) es)
        → is_key_among k (cond b (own ∷ []) [] ++ keys_among sheet es) ≡ is_some (cond (b && eq_by_cmp key_cmp k own) (Some cell) (find key_cmp (cell_at sheet k) es))
    by true later = tells (eq_by_cmp key_cmp k own) later
    by false later = later

-- a key is among them if its cell is newer
pub among-new : (last number : ℕ) (held : Held) (sheet : Sheet) (k : KeyTexts) → AreRowCells number held
    → is_key_among k (keys_touched last number held sheet) ≡ is_new last (get held (cell_at sheet k))
among-new last number held sheet k all =
    among-keys sheet (touched last number held) k
    ∙ (ap is_some (touched-find last number held (cell_at sheet k)) ∙ by (get held (cell_at sheet k)) refl)
  where
    tells : (cell : Cell) (t : Bool) → is_some (cond (t && true) (Some cell) None) ≡ t
    tells cell true = refl
    tells cell false = refl

    by : (found : Option Cell) → get held (cell_at sheet k) ≡ found → is_some (only (is_touched last number) found) ≡ is_new last found
    by None is = refl
    by (Some cell) is =
        ap (λ b. is_some (cond (nat_lt last cell.entry && b) (Some cell) None)) (le-leb cell.entry number (all (cell_at sheet k) cell is).most)
        ∙ tells cell (nat_lt last cell.entry)

-- ---- they rise

lower : (o : Ordering) → T (is_lt o) → o ≡ Less
lower Ordering.Less t = refl
lower Ordering.Equal t = absurd t
lower Ordering.Greater t = absurd t

equal : (o : Ordering) → is_eq o ≡ true → o ≡ Ordering.Equal
equal Ordering.Less t = cc
equal Ordering.Equal t = refl
equal Ordering.Greater t = cc

-- keys of one kind are ordered like the texts after the kind
behind : (kind : List ℕ) (a b : KeyTexts) → key_cmp (kind ∷ a) (kind ∷ b) ≡ key_cmp a b
behind kind a b = ap (λ o. ordering_then o (key_cmp a b)) (equal _ (ap is_eq (tied_itself nat_list_cmp_total kind)))

below-among : (sheet : Sheet) (k : KeyTexts) (es : List (KeyTexts × Cell)) → T (below_all key_cmp (cell_at sheet k) es)
    → AllByRecursion (λ j. key_cmp k j ≡ Less) (keys_among sheet es)
below-among sheet k [] below = tt
below-among sheet k (([], cell) ∷ es) below =
    below-among sheet k es (second (is_lt (key_cmp (cell_at sheet k) [])) (below_all key_cmp (cell_at sheet k) es) below)
below-among sheet k ((kind ∷ own, cell) ∷ es) below = by (bytes_eq kind (cell_kind sheet)) refl (below-among sheet k es (second _ _ below))
  where
    by : (b : Bool) → bytes_eq kind (cell_kind sheet) ≡ b → AllByRecursion (λ j. key_cmp k j ≡ Less) (keys_among sheet es)
        → AllByRecursion (λ j. key_cmp k j ≡ Less) (cond b (own ∷ []) [] ++ keys_among sheet es)
    by true same later = (
      sym (behind (cell_kind sheet) k own)
          ∙ (ap (λ t. key_cmp (cell_at sheet k) (t ∷ own)) (sym (bytes_same kind (cell_kind sheet) same)) ∙ lower _ (first _ _ below)),
      later,
    )
    by false other later = later

among-rise : (sheet : Sheet) (es : List (KeyTexts × Cell)) → T (is_sorted key_cmp es) → KeysRise (keys_among sheet es)
unfolding IsStrictlySortedBy
among-rise sheet [] sorted = tt
among-rise sheet (([], cell) ∷ es) sorted = among-rise sheet es (second (below_all key_cmp [] es) (is_sorted key_cmp es) sorted)
among-rise sheet ((kind ∷ own, cell) ∷ es) sorted = by (bytes_eq kind (cell_kind sheet)) refl (among-rise sheet es (second _ _ sorted))
  where
    by : (b : Bool) → bytes_eq kind (cell_kind sheet) ≡ b → KeysRise (keys_among sheet es) → KeysRise (cond b (own ∷ []) [] ++ keys_among sheet es)
    by true same later = (
      below-among sheet own es (subst (λ t. T (below_all key_cmp (t ∷ own) es)) (bytes_same kind (cell_kind sheet) same) (first _ _ sorted)),
      later,
    )
    by false other later = later

-- ---- what is known of them

pub within-key : (sheet : Sheet) (k : RowKey) → key_within sheet (cell_key k) ≡ cond (is_key_of sheet k) (key_texts k ∷ []) []
within-key Sheet.Lei (RowKey.Rec lei) = refl
within-key Sheet.Lei (RowKey.Rel start kind end) = refl
within-key Sheet.Lei (RowKey.Exc lei category) = refl
within-key Sheet.Rr (RowKey.Rec lei) = refl
within-key Sheet.Rr (RowKey.Rel start kind end) = refl
within-key Sheet.Rr (RowKey.Exc lei category) = refl
within-key Sheet.Repex (RowKey.Rec lei) = refl
within-key Sheet.Repex (RowKey.Rel start kind end) = refl
within-key Sheet.Repex (RowKey.Exc lei category) = refl

touched-told : (sheet : Sheet) (told : List Touched) → touched_by sheet (map row_change_of told) ≡ keys_among sheet (map cell_under_key told)
touched-told sheet [] = refl
touched-told sheet (t ∷ told) =
    by (is_key_of sheet t.key) (touched-told sheet told) ∙ ap (λ l. l ++ keys_among sheet (map cell_under_key told)) (sym (within-key sheet t.key))
  where
    by : (b : Bool) → touched_by sheet (map row_change_of told) ≡ keys_among sheet (map cell_under_key told)
        → map (λ (c : RowKey × Option SheetRow). key_texts c.0) (cond b (row_change_of t ∷ in_sheet sheet (map row_change_of told)) (in_sheet sheet (map row_change_of told)))
        ≡ cond b (key_texts t.key ∷ []) [] ++ keys_among sheet (map cell_under_key told)
    by true later = ap (λ l. key_texts t.key ∷ l) later
    by false later = later

pub touched-keys : (limits : Limits) (history : History) (changes : KeyChanges) (sheet : Sheet) → AreNextChanges limits history changes
    → touched_by sheet changes ≡ keys_touched (last_published history) (length history) (held_after limits history) sheet
touched-keys limits history changes sheet next =
    ap (touched_by sheet) next.are ∙ (touched-told sheet next.told ∙ ap (keys_among sheet) next.touched)

-- the keys of each sheet rise
pub rising : (limits : Limits) (history : History) (changes : KeyChanges) → AreNextChanges limits history changes
    → (sheet : Sheet) → KeysRise (touched_by sheet changes)
rising limits history changes next sheet =
    subst KeysRise (sym (touched-keys limits history changes sheet next))
    (among-rise sheet (touched (last_published history) (length history) (held_after limits history))
    (touched-sorted (last_published history) (length history) (held_after limits history)))

-- ---- the row that is reported for a key is the one that is published

only-some : (p : Cell → Bool) (found : Option Cell) (cell : Cell) → only p found ≡ Some cell → found ≡ Some cell
only-some p None cell is = cc
only-some p (Some other) cell is = by (p other) is
  where
    by : (b : Bool) → cond b (Some other) None ≡ Some cell → Some other ≡ Some cell
    by true is = is
    by false is = cc

abbrev pub IsFoundIn : Held → KeyTexts × Cell → Type 0
IsFoundIn held e = get held e.0 ≡ Some e.1

-- each cell that was touched is held
pub touched-each : (last number : ℕ) (held : Held) → AllByRecursion (IsFoundIn held) (touched last number held)
touched-each last number held =
    each-found (λ k cell. get held k ≡ Some cell) (touched last number held) (touched-sorted last number held)
    (λ k cell found. only-some (is_touched last number) (get held k) cell (sym (touched-find last number held k) ∙ found))

cell_under_key-each : (Q : KeyTexts × Cell → Type 0) (told : List Touched) → AllByRecursion Q (map cell_under_key told) → AllByRecursion (λ t. Q (cell_under_key t)) told
cell_under_key-each Q [] each = tt
cell_under_key-each Q (t ∷ told) each = (each.0, cell_under_key-each Q told each.1)

pub told-found : (last number : ℕ) (held : Held) (told : List Touched) → map cell_under_key told ≡ touched last number held
    → AllByRecursion (λ t. IsFoundIn held (cell_under_key t)) told
told-found last number held told is =
    cell_under_key-each (IsFoundIn held) told (subst (AllByRecursion (IsFoundIn held)) (sym is) (touched-each last number held))

-- the sheet of a cell's key
sheet_at : KeyTexts → Sheet
sheet_at [] = Sheet.Lei
sheet_at (kind ∷ texts) = cond (bytes_eq kind record_kind) Sheet.Lei (cond (bytes_eq kind relation_kind) Sheet.Rr Sheet.Repex)

sheet-at : (k : RowKey) → sheet_at (cell_key k) ≡ sheet_of_key k
unfolding sheet_at
sheet-at (RowKey.Rec lei) = refl
sheet-at (RowKey.Rel start kind end) = refl
sheet-at (RowKey.Exc lei category) = refl

pub same-sheet : (a b : RowKey) → cell_key a ≡ cell_key b → sheet_of_key a ≡ sheet_of_key b
same-sheet a b is = sym (sheet-at a) ∙ (ap sheet_at is ∙ sheet-at b)

row-told : (k : RowKey) (item : Option Item) → IsItemOf k item → row_published item ≡ published_row (sheet_of_key k) (option_map item_row item)
row-told k None own = refl
row-told k (Some (Item.Record row)) own = ap (λ s. published_row s (Some row)) (sym (same-sheet k (row_key (Item.Record row)) own))
row-told k (Some (Item.Relation row)) own =
    by (is_annulled_relation (registration_in row)) ∙ ap (λ s. published_row s (Some row)) (sym (same-sheet k (row_key (Item.Relation row)) own))
  where
    by : (b : Bool) → cond b None (Some (row_of_texts Sheet.Rr row)) ≡ option_map (row_of_texts Sheet.Rr) (cond (not b) (Some row) None)
    by true = refl
    by false = refl
row-told k (Some (Item.Exception item)) own = ap (λ s. published_row s (Some item.0)) (sym (same-sheet k (row_key (Item.Exception item)) own))

key-cell : (k : RowKey) → cell_at (sheet_of_key k) (key_texts k) ≡ cell_key k
key-cell (RowKey.Rec lei) = refl
key-cell (RowKey.Rel start kind end) = refl
key-cell (RowKey.Exc lei category) = refl

pub told-row : (limits : Limits) (history : History) (t : Touched) → IsItemOf t.key t.item → IsFoundIn (held_after limits history) (cell_under_key t)
    → row_published t.item ≡ row_under (published_rows (after limits history) (sheet_of_key t.key)) (key_texts t.key)
told-row limits history t own found =
    let sheet = sheet_of_key t.key in
    let held = held_after limits history in
    row-told t.key t.item own
    ∙ sym (rows-found (after limits history) sheet (key_texts t.key) (after-fit limits history).sound
    ∙ (published-cell limits history sheet (key_texts t.key)
    ∙ (ap (λ q. published_row sheet (row_in (get held q))) (key-cell t.key) ∙ ap (λ c. published_row sheet (row_in c)) found)))

-- a key of a sheet has this sheet
pub of-sheet : (sheet : Sheet) (k : RowKey) → is_key_of sheet k ≡ true → sheet_of_key k ≡ sheet
of-sheet Sheet.Lei (RowKey.Rec lei) is = refl
of-sheet Sheet.Lei (RowKey.Rel start kind end) is = cc
of-sheet Sheet.Lei (RowKey.Exc lei category) is = cc
of-sheet Sheet.Rr (RowKey.Rec lei) is = cc
of-sheet Sheet.Rr (RowKey.Rel start kind end) is = refl
of-sheet Sheet.Rr (RowKey.Exc lei category) is = cc
of-sheet Sheet.Repex (RowKey.Rec lei) is = cc
of-sheet Sheet.Repex (RowKey.Rel start kind end) is = cc
of-sheet Sheet.Repex (RowKey.Exc lei category) is = refl

-- the row that is reported for a key is that of these rows, if the key belongs to the sheet
abbrev pub IsToldBy : Sheet → List SheetRow → Touched → Type 0
IsToldBy sheet now t = is_key_of sheet t.key ≡ true → row_published t.item ≡ row_under now (key_texts t.key)

pub all-told : (limits : Limits) (history : History) (sheet : Sheet) (told : List Touched) → AreOwnItems told
    → AllByRecursion (λ t. IsFoundIn (held_after limits history) (cell_under_key t)) told
    → AllByRecursion (IsToldBy sheet (published_rows (after limits history) sheet)) told
all-told limits history sheet [] own found = tt
all-told limits history sheet (t ∷ told) own found = (
  λ is. subst (λ s. row_published t.item ≡ row_under (published_rows (after limits history) s) (key_texts t.key)) (of-sheet sheet t.key is)
      (told-row limits history t own.0 found.0),
  all-told limits history sheet told own.1 found.1,
)

changes-told : (sheet : Sheet) (now : List SheetRow) (told : List Touched) → AllByRecursion (IsToldBy sheet now) told
    → changes_of sheet (map row_change_of told) ≡ map (now_under sheet now) (touched_by sheet (map row_change_of told))
changes-told sheet now [] each = refl
changes-told sheet now (t ∷ told) each = by (is_key_of sheet t.key) refl (changes-told sheet now told each.1)
  where
    rest : KeyChanges
    rest = in_sheet sheet (map row_change_of told)

    by : (b : Bool) → is_key_of sheet t.key ≡ b → changes_of sheet (map row_change_of told) ≡ map (now_under sheet now) (touched_by sheet (map row_change_of told))
        → map (λ (c : RowKey × Option SheetRow). change_to sheet (key_texts c.0) c.1) (cond b (row_change_of t ∷ rest) rest)
        ≡ map (now_under sheet now) (map (λ (c : RowKey × Option SheetRow). key_texts c.0) (cond b (row_change_of t ∷ rest) rest))
    by true is later =
        ap (λ row. change_to sheet (key_texts t.key) row ∷ changes_of sheet (map row_change_of told)) (each.0 is)
        ∙ ap (λ l. now_under sheet now (key_texts t.key) ∷ l) later
    by false other later = later

-- ---- patching

pub found-key : (rows : List SheetRow) (k : KeyTexts) (row : SheetRow) → find key_cmp k (under_keys rows) ≡ Some row → key row ≡ k
found-key [] k row is = cc
found-key (x ∷ rows) k row is = by (eq_by_cmp key_cmp k (key x)) refl is (found-key rows k row)
  where
    by : (b : Bool) → eq_by_cmp key_cmp k (key x) ≡ b → cond b (Some x) (find key_cmp k (under_keys rows)) ≡ Some row
        → (find key_cmp k (under_keys rows) ≡ Some row → key row ≡ k) → key row ≡ k
    by true test is later = (let same : x ≡ row = cc in ap key (sym same)) ∙ sym (same_key k (key x) test)
    by false test is later = later is

pub under : (rows : List SheetRow) (k : KeyTexts) → row_under rows k ≡ find key_cmp k (under_keys rows)
under rows k = get-from_entries keys_total (under_keys rows) k

get-changed : (sheet : Sheet) (now : List SheetRow) (m : Keyed) (j k : KeyTexts) → length j ≡ key_len sheet
    → get (after_change m (now_under sheet now j)) k ≡ cond (eq_by_cmp key_cmp k j) (row_under now j) (get m k)
get-changed sheet now m j k wide = by (row_under now j) (sym (under now j))
  where
    by : (row : Option SheetRow) → find key_cmp j (under_keys now) ≡ row → get (after_change m (change_to sheet j row)) k ≡ cond (eq_by_cmp key_cmp k j) row (get m k)
    by None is = get-remove keys_total m (key (dropped_row sheet j)) k
        ∙ ap (λ i. cond (eq_by_cmp key_cmp k i) None (get m k)) (take_at j _ (key_len sheet) wide)
    by (Some row) is = get-insert keys_total m (key row) row k
        ∙ ap (λ i. cond (eq_by_cmp key_cmp k i) (Some row) (get m k)) (found-key now j row is)

abbrev AreWide : Sheet → List KeyTexts → Type 0
AreWide sheet ks = AllByRecursion (λ k. length k ≡ key_len sheet) ks

get-all : (sheet : Sheet) (now : List SheetRow) (m : Keyed) (ks : List KeyTexts) (k : KeyTexts) → AreWide sheet ks
    → get (all_changed m (map (now_under sheet now) ks)) k ≡ cond (is_key_among k ks) (row_under now k) (get m k)
get-all sheet now m [] k wide = refl
get-all sheet now m (j ∷ ks) k wide =
    get-all sheet now (after_change m (now_under sheet now j)) ks k wide.1
    ∙ (ap (cond (is_key_among k ks) (row_under now k)) (get-changed sheet now m j k wide.0) ∙ by (eq_by_cmp key_cmp k j) (is_key_among k ks) refl)
  where
    by : (b t : Bool) → eq_by_cmp key_cmp k j ≡ b
        → cond t (row_under now k) (cond b (row_under now j) (get m k)) ≡ cond (b || t) (row_under now k) (get m k)
    by true true same = refl
    by true false same = ap (row_under now) (sym (same_key k j same))
    by false t other = refl

values-keyed : (rows : List SheetRow) → T (is_sorted key_cmp (under_keys rows)) → values (rows_by_key rows) ≡ rows
values-keyed rows sorted =
    let same : rows_by_key rows ≡ from_sorted {R = key_cmp} (under_keys rows) =
    same_map keys_total keys_antisymmetric (rows_by_key rows) (from_sorted (under_keys rows))
    (λ k. under rows k ∙ sym (get-from_sorted key_cmp (under_keys rows) k sorted)) in
    ap (λ m. values m) same ∙ (ap (map (λ (e : KeyTexts × SheetRow). e.1)) (entries-from_sorted key_cmp (under_keys rows) sorted) ∙ rows-again rows)
  where
    rows-again : (rows : List SheetRow) → map (λ (e : KeyTexts × SheetRow). e.1) (under_keys rows) ≡ rows
    rows-again [] = refl
    rows-again (row ∷ rows) = ap (λ l. row ∷ l) (rows-again rows)

-- if each other key had the same row before, the current rows are the result of patching
patched-is : (sheet : Sheet) (before now : List SheetRow) (ks : List KeyTexts) → AreWide sheet ks → T (is_sorted key_cmp (under_keys now))
    → ((k : KeyTexts) → is_key_among k ks ≡ false → row_under now k ≡ row_under before k)
    → patched before (map (now_under sheet now) ks) ≡ now
patched-is sheet before now ks wide sorted stays =
    ap (λ m. values m) (same_map keys_total keys_antisymmetric (all_changed (rows_by_key before) (map (now_under sheet now) ks)) (rows_by_key now)
    (λ k. get-all sheet now (rows_by_key before) ks k wide ∙ by k (is_key_among k ks) refl))
    ∙ values-keyed now sorted
  where
    by : (k : KeyTexts) (b : Bool) → is_key_among k ks ≡ b → cond b (row_under now k) (row_under before k) ≡ row_under now k
    by k true is = refl
    by k false is = sym (stays k is)

-- ---- the next publication

pub key-wide : (k : RowKey) → length (key_texts k) ≡ key_len (sheet_of_key k)
key-wide (RowKey.Rec lei) = refl
key-wide (RowKey.Rel start kind end) = refl
key-wide (RowKey.Exc lei category) = refl

told-wide : (sheet : Sheet) (told : List Touched) → AreWide sheet (touched_by sheet (map row_change_of told))
told-wide sheet [] = tt
told-wide sheet (t ∷ told) = by (is_key_of sheet t.key) refl (told-wide sheet told)
  where
    rest : KeyChanges
    rest = in_sheet sheet (map row_change_of told)

    by : (b : Bool) → is_key_of sheet t.key ≡ b → AreWide sheet (touched_by sheet (map row_change_of told))
        → AreWide sheet (map (λ (c : RowKey × Option SheetRow). key_texts c.0) (cond b (row_change_of t ∷ rest) rest))
    by true is later = (subst (λ s. length (key_texts t.key) ≡ key_len s) (of-sheet sheet t.key is) (key-wide t.key), later)
    by false other later = later

-- a key that wasn't touched has the row of the latest publication
pub stays-published : (limits : Limits) (history : History) (sheet : Sheet) (k : KeyTexts) → Legal (office_of limits history)
    → is_key_among k (keys_touched (last_published history) (length history) (held_after limits history) sheet) ≡ false
    → row_under (published_rows (after limits history) sheet) k ≡ row_under (latest_rows (trail (office_of limits history)) sheet) k
stays-published limits history sheet k legal never =
    let held = held_after limits history in
    let old = sym (among-new (last_published history) (length history) held sheet k (held-stands limits history legal)) ∙ never in
    rows-found (after limits history) sheet k (after-fit limits history).sound ∙ sym ((legal-keeps limits history legal).kept sheet k old)

next-rows : (limits : Limits) (history : History) (changes : KeyChanges) (sheet : Sheet) → Legal (office_of limits history) → AreNextChanges limits history changes
    → published_rows (after limits history) sheet ≡ patched (latest_rows (trail (office_of limits history)) sheet) (changes_of sheet changes)
next-rows limits history changes sheet legal next =
    let before = latest_rows (trail (office_of limits history)) sheet in
    let now = published_rows (after limits history) sheet in
    let held = held_after limits history in
    let found = told-found (last_published history) (length history) held next.told next.touched in
    let keys = touched_by sheet (map row_change_of next.told) in
    let touched_is = touched-told sheet next.told ∙ ap (keys_among sheet) next.touched in
    sym (ap (λ c. patched before (changes_of sheet c)) next.are
    ∙ (ap (patched before) (changes-told sheet now next.told (all-told limits history sheet next.told next.own found))
    ∙ patched-is sheet before now keys (told-wide sheet next.told) (rows-sorted (after limits history) sheet (after-fit limits history).sound)
    (λ k never. stays-published limits history sheet k legal (ap (is_key_among k) (sym touched_is) ∙ never))))

-- the publication that the entry makes follows the latest one by these changes, in the width of the entry's rules
pub next_issued : (limits : Limits) (history : History) (changes : KeyChanges) (e : KeptEntry) (moment : ℤ) → Legal (office_of limits history)
    → AreNextChanges limits history changes → is_publication e ≡ true → e.moment ≡ moment
    → IsIssued (latest_rows (trail (office_of limits history))) moment (are_wide_rules e.rules) changes (publication_by limits history e)
next_issued limits history changes e moment legal next is at = record {
  moment_is = at;
  wide_is = refl;
  rows_are = λ sheet. next-rows limits history changes sheet legal next;
  touched_are = λ sheet. sym (touched-keys limits history changes sheet next);
}
