-- Deltas: sorted keys, each once, and what is joined from their lines.
use Rattle.std.proofs.Common.{◌≡◌, ℕ, ℤ, zero, suc, ◌+◌, ◌-◌, ◌≤◌, ◌<◌, length-append, Bool, true, false, ◌||◌, cond, T, Option, None, Some, List, [], ◌∷◌, ◌++◌, length, map, take, drop, refl, sym, ap, subst, ◌∙◌, arith}
use Rattle.std.specs.Prelude.{codes, option_map, replicate, unwrap_or}
use Rattle.std.proofs.lemmas.Bool.{false≢true}
use Rattle.std.specs.Cmp.{IsTotalOrder, on_total}
use Rattle.std.specs.FinMap.{entries, entries_sorted, from_entries, get-entries, get-from_entries}
use Rattle.std.specs.FinMap.Entries.{below_all, find, is_sorted, same_entries}
use Rattle.std.specs.List.{All, AllByRecursion, dedup, dedup_from, filter, list_any, slice_index_or}
use Rattle.std.specs.List.Retain.{DiffersFromLast, IsFiltered}
use Rattle.std.specs.List.Sorted.{IsPermutation, IsSorted, IsStrictlySortedBy}
use Rattle.std.specs.Ordering.{eq_by_cmp, is_lt}
use Rattle.std.specs.declared.cmp.Ordering.{Ordering}
use Rattle.std.proofs.lemmas.List.{append-nil, append_assoc, drop_all, drop_more, length-drop, take_all}
use Rattle.std.proofs.lemmas.List.Elements.{All-append, All-nil}
use Rattle.std.proofs.lemmas.List.Filters.{All-dedup, dedup_is}
use Rattle.std.proofs.lemmas.List.Kept.{IsStrictlySortedBy-dedup}
use Rattle.std.proofs.lemmas.List.Sorted.{All-permutation, list_any-IsPermutation}
use Rattle.lei_records.specs.Tables.{KeyTexts, key_cmp}
use Rattle.register_words.specs.declared.sheets.Sheet.{Sheet}
use Rattle.copy_csv.specs.Csv.{Rendered, rendered_in}
use Rattle.copy_csv.specs.declared.rows.TextChange.{TextChange}
use Rattle.golden_shelf.specs.declared.sides.Sides.{Sides}
use Rattle.golden_shelf.specs.Parts.{kept_parts, side_of}
use Rattle.golden_shelf.specs.Sides.{SideState}
use Rattle.golden_shelf.proofs.Publishing.{kept_lines, latest_sound}
use Rattle.copy_csv.specs.Rows.{AreRows, IsChangeOf, IsRowOfSheet}
use Rattle.copy_csv.specs.Sheets.{SheetRow, key_len, row_of_texts, width}
use Rattle.lei_code.specs.Texts.{Text}
use Rattle.lei_records.specs.declared.view.RowKey.{RowKey}
use Rattle.golden_shelf.specs.Keys.{is_key_of, key_texts}
use Rattle.copy_csv.proofs.RowLemmas.{key_total}
use Rattle.copy_forms.specs.Files.{delta, rendered_change, row_renderings}
use Rattle.register_words.specs.declared.sheets.Form.{Form}
use Rattle.copy_forms.specs.Trails.{FollowOn, IsKeyOf, IsSoundTrail, Publication, Trail, change_at_key, change_to, changes_between, delta_between, dropped_row, is_key_among, is_wide_in, keys_in_order, nothing_published, row_under, touched_in}
use Rattle.copy_forms.proofs.TrailLemmas.{are_changes}
use Rattle.golden_shelf.specs.declared.issue.Issue.{Issue}
use Rattle.golden_shelf.specs.declared.order.TextKey.{TextKey}
use Rattle.golden_shelf.specs.Deltas.{change_texts, changed_in, shown_in, texts_in}
use Rattle.golden_shelf.specs.Lines.{KeyedLine, keyed_line}
use Rattle.golden_shelf.specs.Shelves.{AreIssuesOf, KeepsTrail, Kept, latest, lines_of}
use Rattle.golden_shelf.proofs.Keeping.{find_lines, joined, under_keys}
use Rattle.golden_shelf.proofs.SideLemmas.{tied}
use Rattle.golden_shelf.proofs.Woven.{key_same}

-- ---- sorted keys, each once

abbrev Order : TextKey → TextKey → Ordering
Order x y = key_cmp (texts_in x) (texts_in y)

abbrev Same : TextKey → TextKey → Bool
Same x y = eq_by_cmp key_cmp (texts_in x) (texts_in y)

order_total : IsTotalOrder Order
order_total = on_total texts_in key_total

among_map : (k : KeyTexts) (xs : List TextKey) → is_key_among k (map texts_in xs) ≡ list_any (λ x. eq_by_cmp key_cmp k (texts_in x)) xs
among_map k [] = refl
among_map k (x ∷ xs) = ap (λ b. eq_by_cmp key_cmp k (texts_in x) || b) (among_map k xs)

among_moved : (k : KeyTexts) (xs ys : List TextKey) → IsPermutation xs ys → is_key_among k (map texts_in ys) ≡ is_key_among k (map texts_in xs)
among_moved k xs ys moved =
    among_map k ys ∙ sym (list_any-IsPermutation (λ x. eq_by_cmp key_cmp k (texts_in x)) xs ys moved) ∙ sym (among_map k xs)

among_once : (k : KeyTexts) (x : TextKey) (xs : List TextKey) → is_key_among k (map texts_in (dedup_from Same x xs)) ≡ is_key_among k (map texts_in (x ∷ xs))
among_once k x [] = refl
among_once k x (y ∷ xs) = by (among_once k x xs) (among_once k y xs) (Same y x) refl
  where
    twice : (a b : Bool) → (a || b) ≡ (a || (a || b))
    twice true b = refl
    twice false b = refl

    by : is_key_among k (map texts_in (dedup_from Same x xs)) ≡ is_key_among k (map texts_in (x ∷ xs))
        → is_key_among k (map texts_in (dedup_from Same y xs)) ≡ is_key_among k (map texts_in (y ∷ xs))
        → (b : Bool) → Same y x ≡ b
        → is_key_among k (map texts_in (cond b (dedup_from Same x xs) (x ∷ dedup_from Same y xs))) ≡ is_key_among k (map texts_in (x ∷ y ∷ xs))
    by first second true e = first ∙ twice (eq_by_cmp key_cmp k (texts_in x)) (is_key_among k (map texts_in xs))
        ∙ ap (λ j. eq_by_cmp key_cmp k (texts_in x) || (eq_by_cmp key_cmp k j || is_key_among k (map texts_in xs))) (sym (tied (texts_in y) (texts_in x) e))
    by first second false e = ap (λ b. eq_by_cmp key_cmp k (texts_in x) || b) second

among_dedup : (k : KeyTexts) (xs : List TextKey) → is_key_among k (map texts_in (dedup Same xs)) ≡ is_key_among k (map texts_in xs)
among_dedup k [] = refl
among_dedup k (x ∷ xs) = among_once k x xs

-- each key paired with itself
abbrev twins : List KeyTexts → List (KeyTexts × KeyTexts)
twins ks = map (λ k. (k, k)) ks

below_twins : (k : KeyTexts) (xs : List TextKey) → AllByRecursion (λ y. key_cmp k (texts_in y) ≡ Ordering.Less) xs → below_all key_cmp k (twins (map texts_in xs)) ≡ true
below_twins k [] all = refl
below_twins k (x ∷ xs) all = joined (is_lt (key_cmp k (texts_in x))) (below_all key_cmp k (twins (map texts_in xs))) (ap is_lt all.0) (below_twins k xs all.1)

sorted_twins : (xs : List TextKey) → IsStrictlySortedBy Order xs → is_sorted key_cmp (twins (map texts_in xs)) ≡ true
unfolding IsStrictlySortedBy
sorted_twins [] sorted = refl
sorted_twins (x ∷ xs) sorted =
    joined (below_all key_cmp (texts_in x) (twins (map texts_in xs))) (is_sorted key_cmp (twins (map texts_in xs)))
    (below_twins (texts_in x) xs sorted.0) (sorted_twins xs sorted.1)

firsts : (ks : List KeyTexts) → map (λ (e : KeyTexts × KeyTexts). e.0) (twins ks) ≡ ks
firsts [] = refl
firsts (k ∷ ks) = ap (λ l. k ∷ l) (firsts ks)

-- a key paired with itself is found if and only if it is among the keys
find_twins : (k : KeyTexts) (ks : List KeyTexts) → find key_cmp k (twins ks) ≡ cond (is_key_among k ks) (Some k) None
find_twins k [] = refl
find_twins k (j ∷ ks) = by (eq_by_cmp key_cmp k j) refl (find_twins k ks)
  where
    by : (b : Bool) → eq_by_cmp key_cmp k j ≡ b → find key_cmp k (twins ks) ≡ cond (is_key_among k ks) (Some k) None
        → cond b (Some j) (find key_cmp k (twins ks)) ≡ cond (b || is_key_among k ks) (Some k) None
    by true e later = ap Some (sym (tied k j e))
    by false e later = later

tells : (b : Bool) → T b → b ≡ true
tells true t = refl
tells false t = absurd t

-- rising keys that are the touched keys are these in order
in_order_is : (touched ks : List KeyTexts) → is_sorted key_cmp (twins ks) ≡ true → ((k : KeyTexts) → is_key_among k ks ≡ is_key_among k touched)
    → ks ≡ keys_in_order touched
in_order_is touched ks sorted same =
    let es : List (KeyTexts × KeyTexts) = entries (from_entries {R = key_cmp} (twins touched)) in
    let e : twins ks ≡ es =
    same_entries key_cmp key_total key_same (twins ks) (entries (from_entries {R = key_cmp} (twins touched))) (subst T (sym sorted) tt)
    (entries_sorted (from_entries {R = key_cmp} (twins touched)))
    (λ k. find_twins k ks ∙ ap (λ b. cond b (Some k) None) (same k) ∙ sym (find_twins k touched)
    ∙ sym (get-from_entries key_total (twins touched) k) ∙ get-entries (from_entries {R = key_cmp} (twins touched)) k) in
    sym (firsts ks) ∙ ap (map (λ (e : KeyTexts × KeyTexts). e.0)) e

-- keys that were sorted, each once, are the touched keys in order
pub ordered : (touched : List KeyTexts) (xs ys zs : List TextKey) → map texts_in xs ≡ touched → IsPermutation xs ys → IsSorted Order ys
    → IsFiltered (DiffersFromLast Same) [] ys zs → map texts_in zs ≡ keys_in_order touched
ordered touched xs ys zs are moved sorted once =
    let is : zs ≡ dedup Same ys = dedup_is Same ys zs once in
    ap (map texts_in) is
    ∙ in_order_is touched (map texts_in (dedup Same ys))
    (sorted_twins (dedup Same ys) (IsStrictlySortedBy-dedup order_total (λ x y. refl) ys sorted))
    (λ k. among_dedup k ys ∙ among_moved k xs ys moved ∙ ap (is_key_among k) are)

pub ordered_own : (P : TextKey → Type 0) (xs ys zs : List TextKey) → IsPermutation xs ys → IsFiltered (DiffersFromLast Same) [] ys zs
    → All P xs → All P zs
ordered_own P xs ys zs moved once own =
    subst (All P) (sym (dedup_is Same ys zs once)) (All-dedup Same P ys (All-permutation P xs ys moved own))

-- ---- the keys that changed after a publication

drop_issues : (issues : List Issue) (trail : Trail) (n : ℕ) → AreIssuesOf issues trail → AreIssuesOf (drop n issues) (drop n trail)
drop_issues issues trail zero are = are
drop_issues [] [] (suc n) are = tt
drop_issues [] (p ∷ trail) (suc n) are = absurd are
drop_issues (i ∷ issues) [] (suc n) are = absurd are
drop_issues (i ∷ issues) (p ∷ trail) (suc n) are = drop_issues issues trail n are.1

changed_touched : (sheet : Sheet) (issues : List Issue) (trail : Trail) → AreIssuesOf issues trail → changed_in sheet issues ≡ touched_in sheet trail
changed_touched sheet [] [] are = refl
changed_touched sheet [] (p ∷ trail) are = absurd are
changed_touched sheet (i ∷ issues) [] are = absurd are
changed_touched sheet (i ∷ issues) (p ∷ trail) are =
    ap (λ l. l ++ changed_in sheet issues) (sym (are.0.touched_are sheet)) ∙ ap (λ l. p.touched sheet ++ l) (changed_touched sheet issues trail are.1)

-- all publications after one are those up to the last
take_rest : {X : Type 0} (xs : List X) (n : ℕ) → take (length xs - n) (drop n xs) ≡ drop n xs
take_rest xs n = take_all (length xs - n) (drop n xs) (let l = length-drop n xs in omega (arith, l))

keys_all : (before : Publication) (later : List Publication) → FollowOn before later → (sheet : Sheet)
    → All (IsKeyOf sheet) (touched_in sheet later)
keys_all before [] on sheet = All-nil (IsKeyOf sheet)
keys_all before (next ∷ later) on sheet =
    All-append (IsKeyOf sheet) (next.touched sheet) (touched_in sheet later) (on.0.keys_are sheet) (keys_all next later on.1 sheet)

keys_behind : (before : Publication) (trail : Trail) (n : ℕ) → FollowOn before trail → (sheet : Sheet)
    → All (IsKeyOf sheet) (touched_in sheet (drop n trail))
keys_behind before trail zero on sheet = keys_all before trail on sheet
keys_behind before [] (suc n) on sheet = All-nil (IsKeyOf sheet)
keys_behind before (next ∷ later) (suc n) on sheet = keys_behind next later n on.1 sheet

-- ---- what is joined

-- what a delta has for a key, by its line and by its row
shown_change : (sheet : Sheet) (rows : List SheetRow) (k : KeyTexts)
    → shown_in sheet (map keyed_line rows) k ≡ rendered_change (change_at_key sheet rows k)
shown_change sheet rows k =
    ap (change_texts sheet k) (find_lines rows k ∙ ap (option_map row_renderings) (sym (get-from_entries key_total (under_keys rows) k)))
    ∙ by (row_under rows k)
  where
    by : (r : Option SheetRow) → change_texts sheet k (option_map row_renderings r) ≡ rendered_change (change_to sheet k r)
    by None = refl
    by (Some row) = refl

shown_changes : (sheet : Sheet) (rows : List SheetRow) (ks : List KeyTexts)
    → map (shown_in sheet (map keyed_line rows)) ks ≡ map rendered_change (map (change_at_key sheet rows) ks)
shown_changes sheet rows [] = refl
shown_changes sheet rows (k ∷ ks) =
    ap (λ r. r ∷ map (shown_in sheet (map keyed_line rows)) ks) (shown_change sheet rows k)
    ∙ ap (λ l. rendered_change (change_at_key sheet rows k) ∷ l) (shown_changes sheet rows ks)

map_texts : {X : Type 0} (g : KeyTexts → X) (keys : List TextKey) → map (λ key. g (texts_in key)) keys ≡ map g (map texts_in keys)
map_texts g [] = refl
map_texts g (x ∷ keys) = ap (λ l. g (texts_in x) ∷ l) (map_texts g keys)

-- what is joined for the touched keys is what a delta has for them in order
pub joined_changes : (sheet : Sheet) (lines : List KeyedLine) (keys : List TextKey) (issues : List Issue) (found : List Rendered)
    → map texts_in keys ≡ keys_in_order (changed_in sheet issues) → found ≡ map (λ key. shown_in sheet lines (texts_in key)) keys
    → found ≡ map (shown_in sheet lines) (keys_in_order (changed_in sheet issues))
joined_changes sheet lines keys issues found are is = is ∙ map_texts (shown_in sheet lines) keys ∙ ap (map (shown_in sheet lines)) are

pub changes_are : (sheet : Sheet) (lines : List KeyedLine) (issues : List Issue) (trail : Trail) (last : Publication) (n : ℕ)
    → AreIssuesOf issues trail → lines ≡ map keyed_line (last.rows sheet)
    → map (shown_in sheet lines) (keys_in_order (changed_in sheet (drop n issues))) ≡ map rendered_change (changes_between trail n (length trail) last sheet)
changes_are sheet lines issues trail last n are is =
    ap (λ ks. map (shown_in sheet lines) (keys_in_order ks)) (changed_touched sheet (drop n issues) (drop n trail) (drop_issues issues trail n are))
    ∙ ap (λ l. map (shown_in sheet l) (keys_in_order (touched_in sheet (drop n trail)))) is
    ∙ shown_changes sheet (last.rows sheet) (keys_in_order (touched_in sheet (drop n trail)))
    ∙ ap (λ t. map rendered_change (map (change_at_key sheet (last.rows sheet)) (keys_in_order (touched_in sheet t)))) (sym (take_rest trail n))

pub changes_good : (sheet : Sheet) (trail : Trail) (last : Publication) (n : ℕ) → IsSoundTrail trail → AreRows sheet (last.rows sheet)
    → All (IsChangeOf sheet) (changes_between trail n (length trail) last sheet)
changes_good sheet trail last n sound rows =
    subst (λ t. All (IsChangeOf sheet) (map (change_at_key sheet (last.rows sheet)) (keys_in_order (touched_in sheet t)))) (sym (take_rest trail n))
    (are_changes sheet (last.rows sheet) (touched_in sheet (drop n trail)) rows.each (keys_behind nothing_published trail n sound sheet)).each

-- ---- keys that are collected, one after the other

rest_of : {X : Type 0} (xs : List X) (i : ℕ) (x : X) → i < length xs → x ≡ slice_index_or xs i x → drop i xs ≡ x ∷ drop (i + 1) xs
rest_of xs i x lt is = drop_more xs i x lt ∙ ap (λ y. y ∷ drop (i + 1) xs) (sym is)

-- one more key is appended, if it is of the sheet
pub key_put : (sheet : Sheet) (out new : List TextKey) (all : List KeyTexts) (keys : List RowKey) (i : ℕ) (x : RowKey) → i < length keys
    → x ≡ slice_index_or keys i x → map texts_in new ≡ map texts_in out ++ map key_texts (filter (is_key_of sheet) (x ∷ []))
    → map texts_in out ++ map key_texts (filter (is_key_of sheet) (drop i keys)) ≡ all
    → map texts_in new ++ map key_texts (filter (is_key_of sheet) (drop (i + 1) keys)) ≡ all
key_put sheet out new all keys i x lt is put before =
    ap (λ l. l ++ map key_texts (filter (is_key_of sheet) (drop (i + 1) keys))) put
    ∙ append_assoc (map texts_in out) (map key_texts (filter (is_key_of sheet) (x ∷ []))) (map key_texts (filter (is_key_of sheet) (drop (i + 1) keys)))
    ∙ ap (λ l. map texts_in out ++ l) (by (is_key_of sheet x) (drop (i + 1) keys))
    ∙ ap (λ l. map texts_in out ++ map key_texts (filter (is_key_of sheet) l)) (sym (rest_of keys i x lt is)) ∙ before
  where
    by : (b : Bool) (rest : List RowKey) → map key_texts (cond b (x ∷ []) []) ++ map key_texts (filter (is_key_of sheet) rest)
        ≡ map key_texts (cond b (x ∷ filter (is_key_of sheet) rest) (filter (is_key_of sheet) rest))
    by true rest = refl
    by false rest = refl

-- the keys of one more publication are appended
pub issue_put : (sheet : Sheet) (out new : List TextKey) (all : List KeyTexts) (issues : List Issue) (i : ℕ) (x : Issue) → i < length issues
    → x ≡ slice_index_or issues i x → map texts_in new ≡ map texts_in out ++ map key_texts (filter (is_key_of sheet) x.keys)
    → map texts_in out ++ changed_in sheet (drop i issues) ≡ all → map texts_in new ++ changed_in sheet (drop (i + 1) issues) ≡ all
issue_put sheet out new all issues i x lt is put before =
    ap (λ l. l ++ changed_in sheet (drop (i + 1) issues)) put
    ∙ append_assoc (map texts_in out) (map key_texts (filter (is_key_of sheet) x.keys)) (changed_in sheet (drop (i + 1) issues))
    ∙ ap (λ l. map texts_in out ++ changed_in sheet l) (sym (rest_of issues i x lt is)) ∙ before

pub none_left : {X : Type 0} (xs : List X) (i : ℕ) → length xs ≤ i → drop i xs ≡ []
none_left xs i end = drop_all i xs end

-- ---- the row of a dropped key

pub key_wide : (sheet : Sheet) (k : RowKey) → is_key_of sheet k ≡ true → length (key_texts k) ≡ key_len sheet
key_wide Sheet.Lei (RowKey.Rec lei) e = refl
key_wide Sheet.Lei (RowKey.Rel start kind end) e = absurd (false≢true e)
key_wide Sheet.Lei (RowKey.Exc lei category) e = absurd (false≢true e)
key_wide Sheet.Rr (RowKey.Rec lei) e = absurd (false≢true e)
key_wide Sheet.Rr (RowKey.Rel start kind end) e = refl
key_wide Sheet.Rr (RowKey.Exc lei category) e = absurd (false≢true e)
key_wide Sheet.Repex (RowKey.Rec lei) e = absurd (false≢true e)
key_wide Sheet.Repex (RowKey.Rel start kind end) e = absurd (false≢true e)
key_wide Sheet.Repex (RowKey.Exc lei category) e = refl

pub key_fits : (sheet : Sheet) → key_len sheet ≤ width sheet
key_fits Sheet.Lei = omega arith
key_fits Sheet.Rr = omega arith
key_fits Sheet.Repex = omega arith

one_more : {X : Type 0} (n : ℕ) (x : X) → replicate n x ++ x ∷ [] ≡ replicate (suc n) x
one_more zero x = refl
one_more (suc n) x = ap (λ l. x ∷ l) (one_more n x)

-- one more empty text after a key
pub padded : {X : Type 0} (k texts new : List X) (n : ℕ) (x : X) → texts ≡ k ++ replicate (length texts - n) x → n ≤ length texts → new ≡ texts ++ x ∷ []
    → new ≡ k ++ replicate (length new - n) x
padded k texts new n x made within push =
    let l : length new ≡ length texts + 1 = ap length push ∙ length-append texts (x ∷ []) in
    let m : length new - n ≡ suc (length texts - n) = omega (arith, l, within) in
    push ∙ ap (λ l. l ++ x ∷ []) made ∙ append_assoc k (replicate (length texts - n) x) (x ∷ [])
    ∙ ap (λ l. k ++ l) (one_more (length texts - n) x) ∙ ap (λ m. k ++ replicate m x) (sym m)

-- before the first empty text
pub unpadded : {X : Type 0} (k texts : List X) (n : ℕ) (x : X) → texts ≡ k → length k ≡ n → texts ≡ k ++ replicate (length texts - n) x
unpadded k texts n x is wide =
    let l : length texts ≡ length k = ap length is in
    let m : 0 ≡ length texts - n = omega (arith, l, wide) in
    is ∙ sym (append-nil k) ∙ ap (λ m. k ++ replicate m x) m

-- and when there are enough of them
pub dropped_is : (sheet : Sheet) (k : KeyTexts) (texts : List Text) → texts ≡ k ++ replicate (length texts - key_len sheet) (codes "")
    → length texts ≡ width sheet → row_of_texts sheet texts ≡ dropped_row sheet k
dropped_is sheet k texts made wide =
    ap (row_of_texts sheet) (made ∙ ap (λ n. k ++ replicate (n - key_len sheet) (codes "")) wide)

-- what was joined for the keys that changed after a publication
pub found_behind : (sheet : Sheet) (issues : List Issue) (sides : Sides) (now : Kept) (n : ℕ) (side : SideState) (slice : List Issue)
    (keys handed : List TextKey) (changes read : List TextChange) → kept_parts issues sides ≡ now → slice ≡ issues → handed ≡ keys
    → map texts_in keys ≡ keys_in_order (changed_in sheet (take (length slice - n) (drop n slice))) → side ≡ side_of sides sheet
    → map rendered_in changes ≡ map (λ key. shown_in sheet side.lines (texts_in key)) handed → map rendered_in read ≡ map rendered_in changes
    → map rendered_in read ≡ map (shown_in sheet (lines_of now sheet)) (keys_in_order (changed_in sheet (drop n now.issues)))
found_behind sheet issues sides now n side slice keys handed changes read view same even ordered is found again =
    again ∙ found ∙ ap (map (λ key. shown_in sheet side.lines (texts_in key))) even
    ∙ map_texts (shown_in sheet side.lines) keys
    ∙ ap (λ l. map (shown_in sheet l) (map texts_in keys)) (ap (λ (s : SideState). s.lines) is ∙ kept_lines issues sides sheet ∙ ap (λ k. lines_of k sheet) view)
    ∙ ap (map (shown_in sheet (lines_of now sheet))) (ordered ∙ ap (λ l. keys_in_order (changed_in sheet l)) (take_rest slice n)
    ∙ ap (λ l. keys_in_order (changed_in sheet (drop n l))) (same ∙ ap (λ k. k.issues) view))

-- ---- the delta

pub rows_latest : (trail : Trail) (last : Publication) (sheet : Sheet) → IsSoundTrail trail → latest trail ≡ Some last → AreRows sheet (last.rows sheet)
rows_latest trail last sheet sound is = subst (λ o. AreRows sheet ((unwrap_or o nothing_published).rows sheet)) is (latest_sound trail sound sheet)

pub rows_each : (trail : Trail) (last : Publication) (sheet : Sheet) → IsSoundTrail trail → latest trail ≡ Some last → All (IsRowOfSheet sheet) (last.rows sheet)
rows_each trail last sheet sound is = let are = rows_latest trail last sheet sound is in are.each

pub lines_latest : (trail : Trail) (last : Publication) (now : Kept) (sheet : Sheet) → KeepsTrail trail now → latest trail ≡ Some last
    → lines_of now sheet ≡ map keyed_line (last.rows sheet)
lines_latest trail last now sheet keeps is = keeps.lines_are sheet ∙ ap (λ o. map keyed_line ((unwrap_or o nothing_published).rows sheet)) is

pub delta_given : (trail : Trail) (last : Publication) (sheet : Sheet) (form : Form) (wide : Bool) (text : Text) (from publication : ℕ) (moment : ℤ)
    → latest trail ≡ Some last
    → ◌≡◌ {A = Option (ℕ × ℤ)} (Some (publication, moment)) (option_map (λ (p : Publication). (length trail, p.moment)) (latest trail))
    → wide ≡ is_wide_in last sheet form
    → text ≡ delta sheet form wide (record { moment = moment; publication = publication; from = from }) (changes_between trail from (length trail) last sheet)
    → text ≡ delta_between trail from (length trail) last sheet form
delta_given trail last sheet form wide text from publication moment is told width text_is =
    let first : publication ≡ length trail = ap (λ (o : Option (ℕ × ℤ)). (unwrap_or {T = ℕ × ℤ} o (publication, moment)).0) (told ∙ ap (option_map (λ (p : Publication). (length trail, p.moment))) is) in
    let second : moment ≡ last.moment = ap (λ (o : Option (ℕ × ℤ)). (unwrap_or {T = ℕ × ℤ} o (publication, moment)).1) (told ∙ ap (option_map (λ (p : Publication). (length trail, p.moment))) is) in
    text_is
    ∙ ap (λ w. delta sheet form w (record { moment = moment; publication = publication; from = from }) (changes_between trail from (length trail) last sheet)) width
    ∙ ap (λ n. delta sheet form (is_wide_in last sheet form) (record { moment = moment; publication = n; from = from }) (changes_between trail from (length trail) last sheet)) first
    ∙ ap (λ m. delta sheet form (is_wide_in last sheet form) (record { moment = m; publication = length trail; from = from }) (changes_between trail from (length trail) last sheet)) second
