-- Merging rows and changes gives the patched rows, and these are rows of the sheet.
use Rattle.std.proofs.Common.{◌≡◌, Bool, true, false, cond, Option, None, Some, List, [], ◌∷◌, ◌++◌, map, refl, sym, ap, subst, ◌∙◌}
use Rattle.std.specs.Prelude.{flat_map, ⊤}
use Rattle.std.specs.FinMap.{get, get-insert, get-remove, same_map, values}
use Rattle.std.specs.FinMap.Entries.{by_order, find}
use Rattle.std.specs.List.{All, AllByRecursion}
use Rattle.std.specs.List.Sorted.{IsStrictlySortedBy}
use Rattle.std.specs.Ordering.{eq_by_cmp, is_eq, ordering_reverse}
use Rattle.std.specs.declared.cmp.Ordering.{Ordering}
use Rattle.std.proofs.lemmas.List.Elements.{All-cons, All-head, All-nil, All-tail}
use Rattle.lei_records.specs.Tables.{KeyTexts, key_cmp}
use Rattle.register_words.specs.declared.sheets.Sheet.{Sheet}
use Rattle.copy_csv.specs.declared.rows.Change.{Change}
use Rattle.copy_csv.specs.Rows.{AreChanges, AreRows, IsChangeOf, IsRowOfSheet, KeysRise, changed_key}
use Rattle.copy_csv.specs.Sheets.{SheetRow, key}
use Rattle.copy_csv.proofs.RowLemmas.{key_total}
use Rattle.copy_forms.specs.Patching.{Keyed, after_change, all_changed, patched, rows_by_key}
use Rattle.copy_forms.proofs.TrailLemmas.{key_same, tied, under, values_keyed}
use Rattle.copy_forms.specs.Merging.{put_by, row_among_changes, rows_with_changes}

-- ---- keys that rise

abbrev Above : KeyTexts → List KeyTexts → Type 0
Above k keys = AllByRecursion (λ j. key_cmp k j ≡ Ordering.Less) keys

abbrev Rises : List KeyTexts → Type 0
Rises [] = ⊤
Rises (k ∷ keys) = Above k keys × Rises keys

rises : (keys : List KeyTexts) → KeysRise keys → Rises keys
unfolding IsStrictlySortedBy
rises [] rising = tt
rises (k ∷ keys) rising = (rising.0, rises keys rising.1)

rising-from : (keys : List KeyTexts) → Rises keys → KeysRise keys
unfolding IsStrictlySortedBy
rising-from [] are = tt
rising-from (k ∷ keys) are = (are.0, rising-from keys are.1)

turned : (j k : KeyTexts) → key_cmp j k ≡ Ordering.Greater → key_cmp k j ≡ Ordering.Less
turned j k e = key_total.antisymm k j ∙ ap ordering_reverse e

above_higher : (j k : KeyTexts) (keys : List KeyTexts) → key_cmp j k ≡ Ordering.Less → Above k keys → Above j keys
above_higher j k [] lt above = tt
above_higher j k (x ∷ keys) lt above = (key_total.trans j k x lt above.0, above_higher j k keys lt above.1)

-- ---- the row of a key among rows

abbrev find_row : KeyTexts → List SheetRow → Option SheetRow
find_row k rows = find key_cmp k (map (λ row. (key row, row)) rows)

find_none : (k : KeyTexts) (rows : List SheetRow) → Above k (map key rows) → find_row k rows ≡ None
find_none k [] above = refl
find_none k (row ∷ rows) above =
    ap (λ o. cond (is_eq o) (Some row) (find_row k rows)) above.0 ∙ find_none k rows above.1

-- the row that a change leaves under its key
abbrev left_by : Change → Option SheetRow
left_by (Change.Put row) = Some row
left_by (Change.Drop row) = None

-- the row that changes leave under a key
abbrev after : KeyTexts → List Change → Option SheetRow → Option SheetRow
after k [] o = o
after k (change ∷ changes) o = after k changes (cond (eq_by_cmp key_cmp k (changed_key change)) (left_by change) o)

after_same : (k : KeyTexts) (changes : List Change) (o : Option SheetRow) → Above k (map changed_key changes) → after k changes o ≡ o
after_same k [] o above = refl
after_same k (change ∷ changes) o above =
    ap (λ c. after k changes (cond (is_eq c) (left_by change) o)) above.0 ∙ after_same k changes o above.1

get_changed : (m : Keyed) (change : Change) (k : KeyTexts)
    → get (after_change m change) k ≡ cond (eq_by_cmp key_cmp k (changed_key change)) (left_by change) (get m k)
get_changed m (Change.Put row) k = get-insert key_total m (key row) row k
get_changed m (Change.Drop row) k = get-remove key_total m (key row) k

get_all : (m : Keyed) (changes : List Change) (k : KeyTexts) → get (all_changed m changes) k ≡ after k changes (get m k)
get_all m [] k = refl
get_all m (change ∷ changes) k = get_all (after_change m change) changes k ∙ ap (after k changes) (get_changed m change k)

-- ---- the row of a key among merged rows

abbrev first_of : Option SheetRow → Option SheetRow → Option SheetRow
first_of None o = o
first_of (Some row) o = Some row

find_put : (k : KeyTexts) (change : Change) (rows : List SheetRow)
    → find_row k (put_by change ++ rows) ≡ cond (eq_by_cmp key_cmp k (changed_key change)) (first_of (left_by change) (find_row k rows)) (find_row k rows)
find_put k (Change.Put row) rows = refl
find_put k (Change.Drop row) rows = by (eq_by_cmp key_cmp k (key row))
  where
    by : (b : Bool) → find_row k rows ≡ cond b (find_row k rows) (find_row k rows)
    by true = refl
    by false = refl

first_alone : (o : Option SheetRow) → first_of o None ≡ o
first_alone None = refl
first_alone (Some row) = refl

-- what a change puts, followed by rows that lack its key
put_found : (k : KeyTexts) (change : Change) (changes : List Change) (rows : List SheetRow) (o o' : Option SheetRow)
    → Above (changed_key change) (map changed_key changes) → find_row k rows ≡ after k changes o → (k ≡ changed_key change → o ≡ None)
    → (eq_by_cmp key_cmp k (changed_key change) ≡ false → o ≡ o')
    → find_row k (put_by change ++ rows) ≡ after k (change ∷ changes) o'
put_found k change changes rows o o' above found none same =
    find_put k change rows ∙ by (eq_by_cmp key_cmp k (changed_key change)) refl
  where
    by : (b : Bool) → eq_by_cmp key_cmp k (changed_key change) ≡ b
        → cond b (first_of (left_by change) (find_row k rows)) (find_row k rows) ≡ after k changes (cond b (left_by change) o')
    by true e =
        let is : k ≡ changed_key change = tied k (changed_key change) e in
        let higher : Above k (map changed_key changes) = subst (λ j. Above j (map changed_key changes)) (sym is) above in
        ap (first_of (left_by change)) (found ∙ after_same k changes o higher ∙ none is) ∙ first_alone (left_by change)
        ∙ sym (after_same k changes (left_by change) higher)
    by false e = found ∙ ap (after k changes) (same e)

puts_found : (k : KeyTexts) (changes : List Change) → Rises (map changed_key changes)
    → find_row k (flat_map put_by changes) ≡ after k changes None
puts_found k [] are = refl
puts_found k (change ∷ changes) are =
    put_found k change changes (flat_map put_by changes) None None are.0 (puts_found k changes are.1) (λ is. refl) (λ is. refl)

placed_found : (k : KeyTexts) (row : SheetRow) (rows : List SheetRow) (others : List Change → List SheetRow)
    → ((changes : List Change) → Rises (map changed_key changes) → find_row k (others changes) ≡ after k changes (find_row k rows))
    → Above (key row) (map key rows) → (changes : List Change) → Rises (map changed_key changes)
    → find_row k (row_among_changes row others changes) ≡ after k changes (find_row k (row ∷ rows))
placed_found k row rows others later above [] are = ap (cond (eq_by_cmp key_cmp k (key row)) (Some row)) (later [] tt)
placed_found k row rows others later above (change ∷ changes) are =
    by (placed_found k row rows others later above changes are.1) (key_cmp (changed_key change) (key row)) refl
  where
    ck : KeyTexts
    ck = changed_key change

    kept : (b : Bool) → eq_by_cmp key_cmp k (key row) ≡ b
        → key_cmp (key row) (changed_key change) ≡ Ordering.Less
        → cond b (Some row) (find_row k (others (change ∷ changes))) ≡ after k (change ∷ changes) (cond b (Some row) (find_row k rows))
    kept true e lt =
        let is : k ≡ key row = tied k (key row) e in
        sym (after_same k (change ∷ changes) (Some row) (subst (λ j. Above j (map changed_key (change ∷ changes))) (sym is)
        (lt, above_higher (key row) (changed_key change) (map changed_key changes) lt are.0)))
    kept false e lt = later (change ∷ changes) are

    by : find_row k (row_among_changes row others changes) ≡ after k changes (find_row k (row ∷ rows)) → (o : Ordering)
        → key_cmp (changed_key change) (key row) ≡ o
        → find_row k (by_order o (put_by change ++ row_among_changes row others changes) (put_by change ++ others changes) (row ∷ others (change ∷ changes)))
        ≡ after k (change ∷ changes) (find_row k (row ∷ rows))
    by inner Ordering.Less e =
        put_found k change changes (row_among_changes row others changes) (find_row k (row ∷ rows)) (find_row k (row ∷ rows)) are.0 inner
        (λ is. find_none k (row ∷ rows) (subst (λ j. Above j (map key (row ∷ rows))) (sym is)
        (e, above_higher (changed_key change) (key row) (map key rows) e above))) (λ other. refl)
    by inner Ordering.Equal e =
        let same : changed_key change ≡ key row = key_same (changed_key change) (key row) e in
        put_found k change changes (others changes) (find_row k rows) (find_row k (row ∷ rows)) are.0 (later changes are.1)
        (λ is. find_none k rows (subst (λ j. Above j (map key rows)) (sym (is ∙ same)) above))
        (λ other. ap (λ b. cond b (Some row) (find_row k rows)) (sym (ap (eq_by_cmp key_cmp k) (sym same) ∙ other)))
    by inner Ordering.Greater e =
        kept (eq_by_cmp key_cmp k (key row)) refl (turned (changed_key change) (key row) e)

merged_found : (k : KeyTexts) (rows : List SheetRow) → Rises (map key rows) → (changes : List Change) → Rises (map changed_key changes)
    → find_row k (rows_with_changes rows changes) ≡ after k changes (find_row k rows)
merged_found k [] up changes are = puts_found k changes are
merged_found k (row ∷ rows) up changes are = placed_found k row rows (rows_with_changes rows) (merged_found k rows up.1) up.0 changes are

-- ---- the keys of merged rows rise

above_put : (j : KeyTexts) (change : Change) (rows : List SheetRow) → key_cmp j (changed_key change) ≡ Ordering.Less → Above j (map key rows)
    → Above j (map key (put_by change ++ rows))
above_put j (Change.Put row) rows lt above = (lt, above)
above_put j (Change.Drop row) rows lt above = above

above_puts : (j : KeyTexts) (changes : List Change) → Above j (map changed_key changes) → Above j (map key (flat_map put_by changes))
above_puts j [] above = tt
above_puts j (change ∷ changes) above = above_put j change (flat_map put_by changes) above.0 (above_puts j changes above.1)

above_placed : (j : KeyTexts) (row : SheetRow) (others : List Change → List SheetRow)
    → ((changes : List Change) → Above j (map changed_key changes) → Above j (map key (others changes)))
    → key_cmp j (key row) ≡ Ordering.Less → (changes : List Change) → Above j (map changed_key changes)
    → Above j (map key (row_among_changes row others changes))
above_placed j row others later lt [] above = (lt, later [] tt)
above_placed j row others later lt (change ∷ changes) above =
    by (above_placed j row others later lt changes above.1) (key_cmp (changed_key change) (key row))
  where
    by : Above j (map key (row_among_changes row others changes)) → (o : Ordering)
        → Above j (map key (by_order o (put_by change ++ row_among_changes row others changes) (put_by change ++ others changes) (row ∷ others (change ∷ changes))))
    by inner Ordering.Less = above_put j change (row_among_changes row others changes) above.0 inner
    by inner Ordering.Equal = above_put j change (others changes) above.0 (later changes above.1)
    by inner Ordering.Greater = (lt, later (change ∷ changes) above)

above_merged : (j : KeyTexts) (rows : List SheetRow) → Above j (map key rows) → (changes : List Change) → Above j (map changed_key changes)
    → Above j (map key (rows_with_changes rows changes))
above_merged j [] up changes above = above_puts j changes above
above_merged j (row ∷ rows) up changes above = above_placed j row (rows_with_changes rows) (above_merged j rows up.1) up.0 changes above

rises_put : (change : Change) (rows : List SheetRow) → Above (changed_key change) (map key rows) → Rises (map key rows)
    → Rises (map key (put_by change ++ rows))
rises_put (Change.Put row) rows above up = (above, up)
rises_put (Change.Drop row) rows above up = up

rises_puts : (changes : List Change) → Rises (map changed_key changes) → Rises (map key (flat_map put_by changes))
rises_puts [] are = tt
rises_puts (change ∷ changes) are =
    rises_put change (flat_map put_by changes) (above_puts (changed_key change) changes are.0) (rises_puts changes are.1)

rises_placed : (row : SheetRow) (rows : List SheetRow) → Above (key row) (map key rows)
    → ((changes : List Change) → Rises (map changed_key changes) → Rises (map key (rows_with_changes rows changes)))
    → (changes : List Change) → Rises (map changed_key changes) → Rises (map key (row_among_changes row (rows_with_changes rows) changes))
rises_placed row rows above later [] are = (above_merged (key row) rows above [] tt, later [] tt)
rises_placed row rows above later (change ∷ changes) are =
    by (rises_placed row rows above later changes are.1) (key_cmp (changed_key change) (key row)) refl
  where
    by : Rises (map key (row_among_changes row (rows_with_changes rows) changes)) → (o : Ordering) → key_cmp (changed_key change) (key row) ≡ o
        → Rises (map key (by_order o (put_by change ++ row_among_changes row (rows_with_changes rows) changes) (put_by change ++ rows_with_changes rows changes) (row ∷ rows_with_changes rows (change ∷ changes))))
    by inner Ordering.Less e =
        rises_put change (row_among_changes row (rows_with_changes rows) changes)
        (above_placed (changed_key change) row (rows_with_changes rows)
        (above_merged (changed_key change) rows (above_higher (changed_key change) (key row) (map key rows) e above)) e changes are.0) inner
    by inner Ordering.Equal e =
        let same : changed_key change ≡ key row = key_same (changed_key change) (key row) e in
        rises_put change (rows_with_changes rows changes)
        (above_merged (changed_key change) rows (subst (λ j. Above j (map key rows)) (sym same) above) changes are.0) (later changes are.1)
    by inner Ordering.Greater e =
        let lt : key_cmp (key row) (changed_key change) ≡ Ordering.Less = turned (changed_key change) (key row) e in (
          above_merged (key row) rows above (change ∷ changes) (lt, above_higher (key row) (changed_key change) (map changed_key changes) lt are.0),
          later (change ∷ changes) are,
        )

merged_rises : (rows : List SheetRow) → Rises (map key rows) → (changes : List Change) → Rises (map changed_key changes)
    → Rises (map key (rows_with_changes rows changes))
merged_rises [] up changes are = rises_puts changes are
merged_rises (row ∷ rows) up changes are = rises_placed row rows up.0 (merged_rises rows up.1) changes are

-- ---- so the merged rows are the patched rows

pub merged_is : (rows : List SheetRow) (changes : List Change) → KeysRise (map key rows) → KeysRise (map changed_key changes)
    → rows_with_changes rows changes ≡ patched rows changes
merged_is rows changes up are =
    let up_rises : Rises (map key rows) = rises (map key rows) up in
    let are_rises : Rises (map changed_key changes) = rises (map changed_key changes) are in
    let made : List SheetRow = rows_with_changes rows changes in
    let same : rows_by_key (rows_with_changes rows changes) ≡ all_changed (rows_by_key rows) changes =
    same_map key_total key_same (rows_by_key (rows_with_changes rows changes)) (all_changed (rows_by_key rows) changes)
    (λ k. under (rows_with_changes rows changes) k ∙ merged_found k rows up_rises changes are_rises
    ∙ sym (get_all (rows_by_key rows) changes k ∙ ap (after k changes) (under rows k))) in
    sym (values_keyed (rows_with_changes rows changes) (rising-from (map key (rows_with_changes rows changes)) (merged_rises rows up_rises changes are_rises)))
    ∙ ap (λ m. values m) same

-- ---- if rows and changes are of a sheet, the merged rows are rows of the sheet

module _ (sheet : Sheet) where
  each_put : (change : Change) (rows : List SheetRow) → IsChangeOf sheet change → All (IsRowOfSheet sheet) rows → All (IsRowOfSheet sheet) (put_by change ++ rows)
  each_put (Change.Put row) rows is all = All-cons (IsRowOfSheet sheet) row rows is.0 all
  each_put (Change.Drop row) rows is all = all

  each_puts : (changes : List Change) → All (IsChangeOf sheet) changes → All (IsRowOfSheet sheet) (flat_map put_by changes)
  each_puts [] each = All-nil (IsRowOfSheet sheet)
  each_puts (change ∷ changes) each =
      each_put change (flat_map put_by changes) (All-head (IsChangeOf sheet) change changes each)
      (each_puts changes (All-tail (IsChangeOf sheet) change changes each))

  each_placed : (row : SheetRow) (others : List Change → List SheetRow) → IsRowOfSheet sheet row
      → ((changes : List Change) → All (IsChangeOf sheet) changes → All (IsRowOfSheet sheet) (others changes))
      → (changes : List Change) → All (IsChangeOf sheet) changes → All (IsRowOfSheet sheet) (row_among_changes row others changes)
  each_placed row others is later [] each = All-cons (IsRowOfSheet sheet) row (others []) is (later [] each)
  each_placed row others is later (change ∷ changes) each =
      by (each_placed row others is later changes rest) (key_cmp (changed_key change) (key row))
    where
      rest : All (IsChangeOf sheet) changes
      rest = All-tail (IsChangeOf sheet) change changes each

      first : IsChangeOf sheet change
      first = All-head (IsChangeOf sheet) change changes each

      by : All (IsRowOfSheet sheet) (row_among_changes row others changes) → (o : Ordering)
          → All (IsRowOfSheet sheet) (by_order o (put_by change ++ row_among_changes row others changes) (put_by change ++ others changes) (row ∷ others (change ∷ changes)))
      by inner Ordering.Less = each_put change (row_among_changes row others changes) first inner
      by inner Ordering.Equal = each_put change (others changes) first (later changes rest)
      by inner Ordering.Greater = All-cons (IsRowOfSheet sheet) row (others (change ∷ changes)) is (later (change ∷ changes) each)

  each_merged : (rows : List SheetRow) → All (IsRowOfSheet sheet) rows → (changes : List Change) → All (IsChangeOf sheet) changes
      → All (IsRowOfSheet sheet) (rows_with_changes rows changes)
  each_merged [] all changes each = each_puts changes each
  each_merged (row ∷ rows) all changes each =
      each_placed row (rows_with_changes rows) (All-head (IsRowOfSheet sheet) row rows all) (each_merged rows (All-tail (IsRowOfSheet sheet) row rows all)) changes each

  pub rows_stay : (rows : List SheetRow) (changes : List Change) → AreRows sheet rows → AreChanges sheet changes → AreRows sheet (patched rows changes)
  rows_stay rows changes are change =
      let up : Rises (map key (rows_with_changes rows changes)) =
      merged_rises rows (rises (map key rows) are.rising) changes (rises (map changed_key changes) change.rising) in
      subst (AreRows sheet) (merged_is rows changes are.rising change.rising) (record {
        each = each_merged rows are.each changes change.each;
        rising = rising-from (map key (rows_with_changes rows changes)) up;
      })
