-- What is kept of the cells of a register: the cells that an entry touched make the tables before it those after it.
use Rattle.std.proofs.Common.{◌≡◌, ◌⊎◌, ℕ, ◌-◌, ◌<◌, ◌≤◌, List, [], ◌∷◌, ◌++◌, map, filter, Bool, true, false, ◌&&◌, cond, nat_le, nat_lt, Option, Some, None, option_map, inl, inr, refl, sym, ap, subst, ◌∙◌, arith, T}
use Rattle.std.specs.Prelude.{IfSome}
use Rattle.std.specs.FinMap.{empty, entries, get, get-empty, get-insert, nat_cmp-IsAntisymmetric, same_map, slice_cmp-IsAntisymmetric}
use Rattle.std.specs.FinMap.Entries.{below_all, find, is_sorted}
use Rattle.std.specs.List.{AllByRecursion}
use Rattle.std.specs.Ordering.{eq_by_cmp, is_eq, is_lt, nat_cmp}
use Rattle.std.specs.Cmp.Lexicographic.{slice_cmp}
use Rattle.std.specs.declared.cmp.Ordering.{Ordering}
use Rattle.std.specs.declared.cmp.Ordering.TheVariants.{Less, Equal, Greater}
use Rattle.std.proofs.lemmas.Cmp.{nat_list_cmp_total}
use Rattle.std.proofs.lemmas.Bool.{leb-true, ltb-true}
use Rattle.std.proofs.lemmas.Bool.Decides.{nat_tests}
use mathlib.Core.Bool.{true≢false}
use Rattle.std.specs.Str.{IsAscii}
use Rattle.lei_values.specs.KeptTables.{CellContent, CellPlace, CellsByPlace, HaveOwnPlaces, IsBatch, IsCellOf, KeptTables, cell_content, cell_place, nothing_kept, put_cell, put_cells, with_batch}
use Rattle.lei_keeper.specs.Keeping.{Becomes}
use Rattle.lei_values.specs.declared.batch.Batch.{Batch}
use Rattle.lei_values.specs.declared.cell.KeptCell.{KeptCell}
use Rattle.lei_values.proofs.Places.{itself, tied}
use Rattle.lei_records.specs.declared.item.Item.{Item}
use Rattle.lei_records.specs.declared.view.RowKey.{RowKey}
use Rattle.lei_records.specs.Tables.{KeyTexts, key_cmp, row_key}
use Rattle.authority_rules.proofs.HolderLemmas.{keys_total, same_key}
use Rattle.authority_rules.proofs.KeyLemmas.{key_itself}
use Rattle.lei_records.specs.Rows.{Row}
use Rattle.register_words.specs.declared.sheets.Sheet.{Sheet}
use Rattle.copy_forms.specs.Items.{item_text}
use Rattle.copy_forms.specs.Json.{json_record}
use Rattle.copy_csv.specs.Sheets.{row_of_texts}
use Rattle.register_table.specs.declared.touched.Touched.{Touched}
use Rattle.register_table.specs.Cells.{IsItemOf}
use Rattle.register_table.specs.Held.{Cell, Held, cell_key}
use Rattle.register_table.specs.Touched.{cell_under_key, is_touched, touched}
use Rattle.register_table.specs.Undos.{IsLater, WriteList, cell_with, touch, touch_all}
use Rattle.register_table.proofs.StampLemmas.{find_below, only, touched-find, touched-sorted}
use Rattle.upload_ledger.specs.History.{History}
use Rattle.register_history.specs.Kept.{AreCellsOf, AreTablesWith, IsKey, StaysUntold, TablesAreOne, content, kept_cell, place_in, sheet_of_key}
use Rattle.register_history.specs.Register.{held_after}
use Rattle.register_history.specs.State.{OfficeState}
use Rattle.register_history.specs.Touching.{AreTouchedCells, Touches}
use Rattle.register_history.proofs.PlaceLemmas.{name_ascii, place-kept, same_place}

-- ---- what is kept under a function of keys

pub record KeepsUnder (held : KeyTexts → Option Cell) (cells : CellsByPlace) : Type 0 where
  pub each : (key : RowKey) → IsKey key → get cells (place_in (cell_key key)) ≡ option_map (content key) (held (cell_key key))
  pub only : (place : CellPlace) (kept : CellContent) → get cells place ≡ Some kept → (key : RowKey) × IsKey key × (place ≡ place_in (cell_key key))

with_told : (KeyTexts → Option Cell) → KeyTexts × Cell → KeyTexts → Option Cell
with_told held e q = cond (eq_by_cmp key_cmp q e.0) (Some e.1) (held q)

told_over : (KeyTexts → Option Cell) → List (KeyTexts × Cell) → KeyTexts → Option Cell
told_over held [] = held
told_over held (e ∷ es) = told_over (with_told held e) es

-- ---- keys of one kind

apart_12 : (P : Type 0) (x y : KeyTexts) → ◌≡◌ {A = KeyTexts} ((1 ∷ []) ∷ x) ((2 ∷ []) ∷ y) → P
apart_12 P x y is = let e : ◌≡◌ {A = ℕ} 1 2 = cc in absurd (omega (arith, e))

apart_13 : (P : Type 0) (x y : KeyTexts) → ◌≡◌ {A = KeyTexts} ((1 ∷ []) ∷ x) ((3 ∷ []) ∷ y) → P
apart_13 P x y is = let e : ◌≡◌ {A = ℕ} 1 3 = cc in absurd (omega (arith, e))

apart_23 : (P : Type 0) (x y : KeyTexts) → ◌≡◌ {A = KeyTexts} ((2 ∷ []) ∷ x) ((3 ∷ []) ∷ y) → P
apart_23 P x y is = let e : ◌≡◌ {A = ℕ} 2 3 = cc in absurd (omega (arith, e))

sheet_same : (a b : RowKey) → cell_key a ≡ cell_key b → sheet_of_key a ≡ sheet_of_key b
sheet_same (RowKey.Rec l) (RowKey.Rec m) is = refl
sheet_same (RowKey.Rel s k e) (RowKey.Rel f t l) is = refl
sheet_same (RowKey.Exc l c) (RowKey.Exc m g) is = refl
sheet_same (RowKey.Rec l) (RowKey.Rel f t m) is = apart_12 _ _ _ is
sheet_same (RowKey.Rel s k e) (RowKey.Rec m) is = apart_12 _ _ _ (sym is)
sheet_same (RowKey.Rec l) (RowKey.Exc m g) is = apart_13 _ _ _ is
sheet_same (RowKey.Exc l c) (RowKey.Rec m) is = apart_13 _ _ _ (sym is)
sheet_same (RowKey.Rel s k e) (RowKey.Exc m g) is = apart_23 _ _ _ is
sheet_same (RowKey.Exc l c) (RowKey.Rel f t m) is = apart_23 _ _ _ (sym is)

-- what is kept of an item under its own key
content_in : Sheet → ℕ → Row → CellContent
content_in sheet entry row = record { touched = entry; row = Some (json_record (row_of_texts sheet row)) }

pub item_kept : (key : RowKey) (entry : ℕ) (item : Option Item) → IsItemOf key item → content key (cell_with entry item) ≡ record { touched = entry; row = option_map item_text item }
unfolding content_in
item_kept key entry None own = refl
item_kept key entry (Some (Item.Record row)) own = ap (λ s. content_in s entry row) (sheet_same key (row_key (Item.Record row)) own)
item_kept key entry (Some (Item.Relation row)) own = ap (λ s. content_in s entry row) (sheet_same key (row_key (Item.Relation row)) own)
item_kept key entry (Some (Item.Exception item)) own = ap (λ s. content_in s entry item.0) (sheet_same key (row_key (Item.Exception item)) own)

content_same : (a b : RowKey) (cell : Cell) → cell_key a ≡ cell_key b → content a cell ≡ content b cell
content_same a b cell is = ap (λ s. record { touched = cell.entry; row = option_map (λ row. json_record (row_of_texts s row)) cell.row }) (sheet_same a b is)

-- ---- one cell more

bool_same : (p q : Bool) → (p ≡ true → q ≡ true) → (q ≡ true → p ≡ true) → p ≡ q
bool_same true true to from = refl
bool_same true false to from = sym (to refl)
bool_same false true to from = from refl
bool_same false false to from = refl

tests_same : (a b : RowKey) → IsKey a → IsKey b
    → eq_by_cmp (slice_cmp nat_cmp) (place_in (cell_key a)) (place_in (cell_key b)) ≡ eq_by_cmp key_cmp (cell_key a) (cell_key b)
tests_same a b of_a of_b = bool_same (eq_by_cmp (slice_cmp nat_cmp) (place_in (cell_key a)) (place_in (cell_key b))) (eq_by_cmp key_cmp (cell_key a) (cell_key b))
    (λ is. subst (λ k. eq_by_cmp key_cmp (cell_key a) k ≡ true) (same_place a b of_a of_b (tied (place_in (cell_key a)) (place_in (cell_key b)) is)) (key_itself (cell_key a)))
    (λ is. subst (λ k. eq_by_cmp (slice_cmp nat_cmp) (place_in (cell_key a)) (place_in k) ≡ true) (same_key (cell_key a) (cell_key b) is) (itself (place_in (cell_key a))))

kept_by : (b : Bool) (key : RowKey) (own : CellContent) (cell : Cell) (held : Option Cell) → (b ≡ true → own ≡ content key cell)
    → cond b (Some own) (option_map (content key) held) ≡ option_map (content key) (cond b (Some cell) held)
kept_by true key own cell held is = ap Some (is refl)
kept_by false key own cell held is = refl

put-told : (held : KeyTexts → Option Cell) (cells : CellsByPlace) (told : Touched) → KeepsUnder held cells → IsKey told.key → IsItemOf told.key told.item
    → KeepsUnder (with_told held (cell_under_key told)) (put_cell cells (kept_cell told))
unfolding with_told
put-told held cells told keeps of_told own =
    let at = cell_place (kept_cell told) in
    let new = cell_content (kept_cell told) in
    let here : at ≡ place_in (cell_key told.key) = place-kept told in
    let cell = cell_with told.entry told.item in
    record {
      each = λ key of_key.
          let place = place_in (cell_key key) in
          let test = eq_by_cmp key_cmp (cell_key key) (cell_key told.key) in
          get-insert nat_list_cmp_total cells at new place
          ∙ (ap (λ p. cond (eq_by_cmp (slice_cmp nat_cmp) place p) (Some new) (get cells place)) here
          ∙ (ap (λ b. cond b (Some new) (get cells place)) (tests_same key told.key of_key of_told)
          ∙ (ap (cond test (Some new)) (keeps.each key of_key)
          ∙ kept_by test key new cell (held (cell_key key))
          (λ is. sym (content_same key told.key cell (same_key (cell_key key) (cell_key told.key) is) ∙ item_kept told.key told.entry told.item own)))));
      only = λ place kept is.
          elim (eq_by_cmp (slice_cmp nat_cmp) place at) as (λ b. eq_by_cmp (slice_cmp nat_cmp) place at ≡ b → cond b (Some new) (get cells place) ≡ Some kept
          → (key : RowKey) × IsKey key × (place ≡ place_in (cell_key key))) [
            | true ↦ λ same _. (told.key, of_told, tied place at same ∙ here)
            | false ↦ λ _ older. keeps.only place kept older
          ] refl (sym (get-insert nat_list_cmp_total cells at new place) ∙ is);
    }

put-all-told : (list : List Touched) (held : KeyTexts → Option Cell) (cells : CellsByPlace) → KeepsUnder held cells → AllByRecursion (λ told. IsKey told.key) list
    → AllByRecursion (λ told. IsItemOf told.key told.item) list → KeepsUnder (told_over held (map cell_under_key list)) (put_cells cells (map kept_cell list))
unfolding told_over
put-all-told [] held cells keeps keys own = keeps
put-all-told (told ∷ list) held cells keeps keys own =
    put-all-told list (with_told held (cell_under_key told)) (put_cell cells (kept_cell told)) (put-told held cells told keeps keys.0 own.0) keys.1 own.1

-- ---- the touched cells over those before are those after

or_else : Option Cell → Option Cell → Option Cell
or_else (Some cell) other = Some cell
or_else None other = other

first_of : (p q : Bool) → T (p && q) → T p
first_of true q t = tt
first_of false q t = absurd t

second_of : (p q : Bool) → T (p && q) → T q
second_of true q t = t
second_of false q t = absurd t

over-find : (es : List (KeyTexts × Cell)) (held : KeyTexts → Option Cell) (q : KeyTexts) → T (is_sorted key_cmp es) → told_over held es q ≡ or_else (find key_cmp q es) (held q)
unfolding told_over with_told or_else
over-find [] held q sorted = refl
over-find (e ∷ es) held q sorted =
    over-find es (with_told held e) q (second_of (below_all key_cmp e.0 es) (is_sorted key_cmp es) sorted)
    ∙ elim (eq_by_cmp key_cmp q e.0) as (λ b. eq_by_cmp key_cmp q e.0 ≡ b
    → or_else (find key_cmp q es) (cond b (Some e.1) (held q)) ≡ or_else (cond b (Some e.1) (find key_cmp q es)) (held q)) [
      | true ↦ λ same.
          let none : find key_cmp q es ≡ None =
          find_below (λ cell. true) q es (subst (λ k. T (below_all key_cmp k es)) (sym (same_key q e.0 same)) (first_of (below_all key_cmp e.0 es) (is_sorted key_cmp es) sorted)) in
          ap (λ o. or_else o (Some e.1)) none
      | false ↦ λ _. refl
    ] refl

-- the cell under a key after an entry is unchanged, or has the entry's number
abbrev IsTouchedAt : ℕ → Option Cell → Option Cell → Type 0
IsTouchedAt number before after = (after ≡ before) ⊎ ((cell : Cell) × (after ≡ Some cell) × (cell.entry ≡ number))

is_own : (number : ℕ) (cell : Cell) → 1 ≤ number → cell.entry ≡ number → is_touched (number - 1) number cell ≡ true
is_own number cell some is =
    let more : nat_lt (number - 1) cell.entry ≡ true = grind (arith, nat_tests) in
    let most : nat_le cell.entry number ≡ true = grind (arith, nat_tests) in
    rw (more, most) refl

is_older : (number : ℕ) (cell : Cell) → cell.entry < number → is_touched (number - 1) number cell ≡ false
is_older number cell less = let more : nat_lt (number - 1) cell.entry ≡ false = grind (arith, nat_tests) in rw more refl

or_touched : (number : ℕ) (before after : Option Cell) → 1 ≤ number → IfSome before (λ cell. cell.entry < number) → IsTouchedAt number before after
    → or_else (only (is_touched (number - 1) number) after) before ≡ after
unfolding or_else
or_touched number None after some older (inl same) = rw same refl
or_touched number (Some cell) after some older (inl same) =
    rw same (ap (λ b. or_else (cond b (Some cell) None) (Some cell)) (is_older number cell older))
or_touched number before after some older (inr (cell, at, is)) =
    rw at (ap (λ b. or_else (cond b (Some cell) None) before) (is_own number cell some is))

if_held : (held : Held) (number : ℕ) (key : KeyTexts) → IsLater number held → IfSome (get held key) (λ cell. cell.entry < number)
if_held held number key later = by_cell (get held key) refl where
  by_cell : (o : Option Cell) → get held key ≡ o → IfSome o (λ cell. cell.entry < number)
  by_cell None is = tt
  by_cell (Some cell) is = later key cell is

pub cells-touched : (number : ℕ) (before after : Held) (cells : CellsByPlace) (list : List KeptCell) → 1 ≤ number → AreCellsOf before cells → Touches number before after
    → AreTouchedCells number after list → AreCellsOf after (put_cells cells list)
cells-touched number before after cells list some are touches is =
    let es = touched (number - 1) number after in
    let keeps = put-all-told is.list (λ q. get before q) cells (record { each = are.each; only = are.only }) is.keys is.own in
    let P : List (KeyTexts × Cell) → Type 0 = λ l. KeepsUnder (told_over (λ q. get before q) l) (put_cells cells (map kept_cell is.list)) in
    let over = subst P is.told keeps in
    let same : (q : KeyTexts) → told_over (λ q. get before q) es q ≡ get after q = λ q.
    over-find es (λ q. get before q) q (touched-sorted (number - 1) number after)
    ∙ (ap (λ o. or_else o (get before q)) (touched-find (number - 1) number after q)
    ∙ or_touched number (get before q) (get after q) some (if_held before number q touches.later) (touches.each q)) in
    subst (λ l. AreCellsOf after (put_cells cells l)) (sym is.are) (record {
      each = λ key of_key. over.each key of_key ∙ ap (option_map (content key)) (same (cell_key key));
      only = over.only;
    })

pub all-push : {X : Type 0} (P : X → Type 0) (list : List X) (one : X) → AllByRecursion P list → P one → AllByRecursion P (list ++ one ∷ [])
all-push P [] one all is = (is, tt)
all-push P (first ∷ list) one all is = (all.0, all-push P list one all.1 is)

-- ---- what writes touch

touch-each : (number : ℕ) (writes : WriteList) (held : Held) (key : KeyTexts) → IsTouchedAt number (get held key) (get (touch_all number writes held) key)
touch-each number [] held key = inl refl
touch-each number (write ∷ writes) held key = elim (touch-each number writes (touch number held write) key) [
  | inr there ↦ inr there
  | inl same ↦
      let cell = cell_with number write.1 in
      let step = same ∙ get-insert keys_total held (cell_key write.0) cell key in
      elim (eq_by_cmp key_cmp key (cell_key write.0)) as (λ b. get (touch_all number writes (touch number held write)) key ≡ cond b (Some cell) (get held key)
      → IsTouchedAt number (get held key) (get (touch_all number writes (touch number held write)) key)) [
        | true ↦ λ is. inr (cell, is, refl)
        | false ↦ λ is. inl is
      ] step
]

pub writes-touch : (number : ℕ) (writes : WriteList) (held : Held) → IsLater number held → Touches number held (touch_all number writes held)
writes-touch number writes held later = record { later = later; each = touch-each number writes held }

-- ---- a batch

all_pass : (p : Cell → Bool) (es : List (KeyTexts × Cell)) → AllByRecursion (λ e. p e.1 ≡ true) (filter (λ e. p e.1) es)
all_pass p [] = tt
all_pass p (e ∷ es) = elim (p e.1) as (λ b. p e.1 ≡ b → AllByRecursion (λ e. p e.1 ≡ true) (cond b (e ∷ filter (λ e. p e.1) es) (filter (λ e. p e.1) es))) [
  | true ↦ λ is. (is, all_pass p es)
  | false ↦ λ _. all_pass p es
] refl

number_own : (number entry : ℕ) → 1 ≤ number → nat_lt (number - 1) entry && nat_le entry number ≡ true → entry ≡ number
number_own number entry some is =
    let parts = both_of (nat_lt (number - 1) entry) (nat_le entry number) is in
    let more = ltb-true (number - 1) entry parts.0 in
    let most = leb-true entry number parts.1 in
    omega (arith, some, more, most)
  where
    both_of : (p q : Bool) → p && q ≡ true → (p ≡ true) × (q ≡ true)
    both_of true true is = (refl, refl)
    both_of true false is = cc
    both_of false q is = cc

own_cells : (number : ℕ) (list : List Touched) → 1 ≤ number → AllByRecursion (λ told. IsKey told.key) list
    → AllByRecursion (λ e. is_touched (number - 1) number e.1 ≡ true) (map cell_under_key list) → AllByRecursion (IsCellOf number) (map kept_cell list)
own_cells number [] some keys pass = tt
own_cells number (told ∷ list) some keys pass =
    ((number_own number told.entry some pass.0, name_ascii told.key keys.0), own_cells number list some keys.1 pass.1)

lower : (o : Ordering) → T (is_lt o) → is_eq o ≡ false
lower Less t = refl
lower Equal t = absurd t
lower Greater t = absurd t

places_apart : (told : Touched) (list : List Touched) → IsKey told.key → AllByRecursion (λ told. IsKey told.key) list → T (below_all key_cmp (cell_key told.key) (map cell_under_key list))
    → AllByRecursion (λ other. cell_place other ≡ cell_place (kept_cell told) → ⊥) (map kept_cell list)
places_apart told [] of_told keys below = tt
places_apart told (next ∷ list) of_told keys below =
    let less = first_of (is_lt (key_cmp (cell_key told.key) (cell_key next.key))) (below_all key_cmp (cell_key told.key) (map cell_under_key list)) below in
    let rest = second_of (is_lt (key_cmp (cell_key told.key) (cell_key next.key))) (below_all key_cmp (cell_key told.key) (map cell_under_key list)) below in (
      λ same.
          let keys_same = same_place told.key next.key of_told keys.0 (sym (place-kept told) ∙ (sym same ∙ place-kept next)) in
          let equal : is_eq (key_cmp (cell_key told.key) (cell_key next.key)) ≡ true = subst (λ k. eq_by_cmp key_cmp (cell_key told.key) k ≡ true) keys_same (key_itself (cell_key told.key)) in
          absurd (true≢false (sym equal ∙ lower (key_cmp (cell_key told.key) (cell_key next.key)) less)),
      places_apart told list of_told keys.1 rest,
    )

cells_apart : (list : List Touched) → AllByRecursion (λ told. IsKey told.key) list → T (is_sorted key_cmp (map cell_under_key list)) → HaveOwnPlaces (map kept_cell list)
cells_apart [] keys sorted = tt
cells_apart (told ∷ list) keys sorted =
    let es = map cell_under_key list in (
      places_apart told list keys.0 keys.1 (first_of (below_all key_cmp (cell_key told.key) es) (is_sorted key_cmp es) sorted),
      cells_apart list keys.1 (second_of (below_all key_cmp (cell_key told.key) es) (is_sorted key_cmp es) sorted),
    )

pub touched-batch : (batch : Batch) (after : Held) → 1 ≤ batch.entry.seq → batch.entry.seq ≤ 9223372036854775807 → IsAscii batch.entry.office
    → AreTouchedCells batch.entry.seq after batch.cells → IsBatch batch
touched-batch batch after some most ascii is =
    let number = batch.entry.seq in
    let P : List (KeyTexts × Cell) → Type 0 = λ l. AllByRecursion (λ e. is_touched (number - 1) number e.1 ≡ true) l in
    let S : List (KeyTexts × Cell) → Type 0 = λ l. T (is_sorted key_cmp l) in
    record {
      number = most;
      office = ascii;
      cells = subst (AllByRecursion (IsCellOf number)) (sym is.are) (own_cells number is.list some is.keys (subst P (sym is.told) (all_pass (is_touched (number - 1) number) (entries after))));
      apart = subst HaveOwnPlaces (sym is.are) (cells_apart is.list is.keys (subst S (sym is.told) (touched-sorted (number - 1) number after)));
    }

-- ---- tables

tables-with : (history : History) (before after : Held) (batch : Batch) (tables : KeptTables) → 1 ≤ batch.entry.seq → Touches batch.entry.seq before after
    → AreTouchedCells batch.entry.seq after batch.cells → AreTablesWith history before tables → AreTablesWith (history ++ batch.entry ∷ []) after (with_batch batch tables)
tables-with history before after batch tables some touches is are = record {
  entries = ap (λ l. l ++ batch.entry ∷ []) are.entries;
  cells = cells-touched batch.entry.seq before after tables.cells batch.cells some are.cells touches is;
}

pub told-with : (old new : Option KeptTables) (history : History) (before after : Held) (batch : Batch) → 1 ≤ batch.entry.seq → Touches batch.entry.seq before after
    → AreTouchedCells batch.entry.seq after batch.cells → Becomes (with_batch batch) old new → IfSome old (AreTablesWith history before)
    → IfSome new (AreTablesWith (history ++ batch.entry ∷ []) after)
told-with None None history before after batch some touches is comes are = tt
told-with None (Some new) history before after batch some touches is comes are = absurd comes
told-with (Some old) None history before after batch some touches is comes are = tt
told-with (Some old) (Some new) history before after batch some touches is comes are =
    subst (AreTablesWith (history ++ batch.entry ∷ []) after) (sym comes) (tables-with history before after batch old some touches is are)

pub told-stays : (P : KeptTables → Type 0) (old new : Option KeptTables) → Becomes (λ t. t) old new → IfSome old P → IfSome new P
told-stays P None None comes are = tt
told-stays P None (Some new) comes are = absurd comes
told-stays P (Some old) None comes are = tt
told-stays P (Some old) (Some new) comes are = subst P (sym comes) are

-- what is untold stays untold
pub becomes-untold : (change : KeptTables → KeptTables) (old new : Option KeptTables)
    → Becomes change old new → StaysUntold old new
becomes-untold change None None comes = λ some. some
becomes-untold change None (Some new) comes = absurd comes
becomes-untold change (Some old) new comes = λ some. refl

pub untold-join : (old mid new : Option KeptTables) → StaysUntold old mid → StaysUntold mid new
    → StaysUntold old new
untold-join old mid new first second some = first (second some)

-- no two different pairs of tables are those of one office
cells-one : (held : Held) (one other : CellsByPlace) → AreCellsOf held one → AreCellsOf held other → one ≡ other
cells-one held one other of_one of_other = same_map nat_list_cmp_total (slice_cmp-IsAntisymmetric nat_cmp-IsAntisymmetric) one other (λ place. by_kept place (get one place) (get other place) refl refl)
  where
    by_kept : (place : CellPlace) (a b : Option CellContent) → get one place ≡ a → get other place ≡ b → get one place ≡ get other place
    by_kept place None None is_a is_b = is_a ∙ sym is_b
    by_kept place (Some a) b is_a is_b =
        let key = of_one.only place a is_a in
        ap (get one) key.2 ∙ (of_one.each key.0 key.1 ∙ (sym (of_other.each key.0 key.1) ∙ ap (get other) (sym key.2)))
    by_kept place None (Some b) is_a is_b =
        let key = of_other.only place b is_b in
        ap (get one) key.2 ∙ (of_one.each key.0 key.1 ∙ (sym (of_other.each key.0 key.1) ∙ ap (get other) (sym key.2)))

pub tables-one : (office : OfficeState) → TablesAreOne office
tables-one office one other of_one of_other =
    let cells = cells-one (held_after office.limits office.history) one.cells other.cells of_one.cells of_other.cells in
    let entries = of_one.entries ∙ sym of_other.entries in
    λ i. record { entries = entries i; cells = cells i }

-- nothing is kept of an empty register
pub nothing-of : (held : Held) → held ≡ empty → AreTablesWith [] held nothing_kept
nothing-of held none = record {
  entries = refl;
  cells = record {
    each = λ key of_key. get-empty (slice_cmp nat_cmp) (place_in (cell_key key)) ∙ ap (option_map (content key)) (sym (ap (λ h. get h (cell_key key)) none ∙ get-empty key_cmp (cell_key key)));
    only = λ place kept is. let bad = sym (get-empty (slice_cmp nat_cmp) place) ∙ is in absurd (none_some kept bad);
  };
}
  where
    none_some : (kept : CellContent) → None ≡ Some kept → ⊥
    none_some kept is = cc
