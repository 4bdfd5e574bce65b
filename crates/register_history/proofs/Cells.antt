-- The cells of a register in their places, as a keeper has them.
use Rattle.std.proofs.Common.{◌≡◌, ℕ, ◌≤◌, ◌&&◌, nat_le, nat_lt, Bool, true, false, cond, List, [], ◌∷◌, filter, map, Option, Some, None, option_map, refl, sym, ap, subst, ◌∙◌, T, arith}
use Rattle.std.proofs.lemmas.Cmp.{nat_list_cmp_total}
use Rattle.std.specs.Cmp.Lexicographic.{slice_cmp}
use Rattle.std.specs.FinMap.{entries, entries_sorted, get, get-entries, nat_cmp-IsAntisymmetric, slice_cmp-IsAntisymmetric}
use Rattle.std.specs.FinMap.Entries.{below_all, find, is_sorted, same_entries}
use Rattle.std.specs.List.{AllByRecursion}
use Rattle.std.specs.Ordering.{eq_by_cmp, is_eq, is_lt, nat_cmp}
use Rattle.authority_rules.proofs.HolderLemmas.{same_key, some_apart}
use Rattle.authority_rules.proofs.KeyLemmas.{key_itself}
use Rattle.lei_values.specs.KeptTables.{CellContent, CellPlace, CellsByPlace, KeptTables, cell_at}
use Rattle.lei_values.specs.declared.cell.KeptCell.{KeptCell}
use Rattle.lei_values.proofs.Places.{tied}
use Rattle.lei_records.specs.declared.view.RowKey.{RowKey}
use Rattle.lei_records.specs.Tables.{KeyTexts, key_cmp}
use Rattle.copy_forms.specs.Json.{json_record}
use Rattle.copy_csv.specs.Sheets.{row_of_texts}
use Rattle.register_table.specs.Held.{Cell, Held, cell_key}
use Rattle.register_table.specs.declared.touched.Touched.{Touched}
use Rattle.register_table.specs.Cells.{IsItemOf}
use Rattle.register_table.specs.Touched.{cell_under_key, is_touched}
use Rattle.register_table.specs.Undos.{cell_with}
use Rattle.register_history.specs.Damage.{cell_to_keep, kept_page, kind_number_in, made_page, sheet_at}
use Rattle.register_history.specs.Kept.{AreCellsOf, IsKey, content, kept_cell, key_kind, key_name, place_in}
use Rattle.register_history.specs.Standing.{AreRowCells, IsRowCell}
use Rattle.register_history.specs.Touching.{AreCellsTouched}
use Rattle.lei_records.specs.declared.item.Item.{Item}
use Rattle.register_history.proofs.KeptLemmas.{item_kept}
use Rattle.std.specs.declared.cmp.Ordering.TheVariants.{Equal}
use Rattle.register_history.proofs.Finding.{both, find_below, first, second}
use Rattle.register_history.proofs.PlaceOrders.{place-order}

abbrev EachStands : ℕ → List (KeyTexts × Cell) → Type 0
EachStands last es = AllByRecursion (λ e. IsRowCell last e.0 e.1) es

each-entry : (P : KeyTexts → Cell → Type 0) (es : List (KeyTexts × Cell)) → T (is_sorted key_cmp es) → ((key : KeyTexts) (cell : Cell) → find key_cmp key es ≡ Some cell → P key cell)
    → AllByRecursion (λ e. P e.0 e.1) es
each-entry P [] sorted each = tt
each-entry P (e ∷ es) sorted each =
    let own : find key_cmp e.0 (e ∷ es) ≡ Some e.1 = ap (λ b. cond b (Some e.1) (find key_cmp e.0 es)) (key_itself e.0) in
    let later : (key : KeyTexts) (cell : Cell) → find key_cmp key es ≡ Some cell → P key cell = λ key cell found.
    elim (eq_by_cmp key_cmp key e.0) as (λ b. eq_by_cmp key_cmp key e.0 ≡ b → P key cell) [
      | true ↦ λ same.
          let none = find_below key_cmp same_key key es (subst (λ k. T (below_all key_cmp k es)) (sym (same_key key e.0 same)) (first _ _ sorted)) in
          absurd (some_apart cell (sym found ∙ none))
      | false ↦ λ apart. each key cell (ap (λ b. cond b (Some e.1) (find key_cmp key es)) apart ∙ found)
    ] refl in
    (each e.0 e.1 own, each-entry P es (second _ _ sorted) later)

each-stands : (last : ℕ) (held : Held) → AreRowCells last held → EachStands last (entries held)
each-stands last held all = each-entry (IsRowCell last) (entries held) (entries_sorted held) (λ key cell found. all key cell (get-entries held key ∙ found))

-- ---- a cell in its place

content_in : KeyTexts → Cell → CellContent
content_in [] cell = record { touched = cell.entry; row = None }
content_in (kind ∷ texts) cell = record { touched = cell.entry; row = option_map (λ row. json_record (row_of_texts (sheet_at (kind_number_in kind)) row)) cell.row }

in_place : KeyTexts × Cell → CellPlace × CellContent
in_place e = (place_in e.0, content_in e.0 e.1)

-- the cells of a register in their places, in order
pub made : Held → List (CellPlace × CellContent)
made held = map in_place (entries held)

content-same : (key : RowKey) (cell : Cell) → content_in (cell_key key) cell ≡ content key cell
unfolding content_in
content-same (RowKey.Rec lei) cell = refl
content-same (RowKey.Rel start kind end) cell = refl
content-same (RowKey.Exc lei category) cell = refl

touched-same : (key : KeyTexts) (cell : Cell) → (content_in key cell).touched ≡ cell.entry
unfolding content_in
touched-same [] cell = refl
touched-same (kind ∷ texts) cell = refl

kept-same : (key : RowKey) (cell : Cell) → cell_to_keep (cell_key key, cell) ≡ cell_at (in_place (cell_key key, cell))
unfolding in_place content_in
kept-same (RowKey.Rec lei) cell = refl
kept-same (RowKey.Rel start kind end) cell = refl
kept-same (RowKey.Exc lei category) cell = refl

kept-at : (last : ℕ) (e : KeyTexts × Cell) → IsRowCell last e.0 e.1 → cell_to_keep e ≡ cell_at (in_place e)
kept-at last (key, cell) stands = subst (λ k. cell_to_keep (k, cell) ≡ cell_at (in_place (k, cell))) (sym stands.under) (kept-same stands.row_key cell)

-- ---- the order of places

order-same : (last : ℕ) (a b : KeyTexts) (c d : Cell) → IsRowCell last a c → IsRowCell last b d → slice_cmp nat_cmp (place_in a) (place_in b) ≡ key_cmp a b
order-same last a b c d of_a of_b =
    ap (λ k. slice_cmp nat_cmp (place_in k) (place_in b)) of_a.under
    ∙ (ap (λ k. slice_cmp nat_cmp (place_in (cell_key of_a.row_key)) (place_in k)) of_b.under
    ∙ (place-order of_a.row_key of_b.row_key of_a.is_key of_b.is_key
    ∙ (ap (λ k. key_cmp (cell_key of_a.row_key) k) (sym of_b.under) ∙ ap (λ k. key_cmp k b) (sym of_a.under))))

below-made : (last : ℕ) (e : KeyTexts × Cell) (es : List (KeyTexts × Cell)) → IsRowCell last e.0 e.1 → EachStands last es → T (below_all key_cmp e.0 es)
    → T (below_all (slice_cmp nat_cmp) (place_in e.0) (map in_place es))
unfolding in_place
below-made last e [] stands all below = tt
below-made last e (next ∷ es) stands all below =
    both _ _ (subst (λ o. T (is_lt o)) (sym (order-same last e.0 next.0 e.1 next.1 stands all.0)) (first _ _ below)) (below-made last e es stands all.1 (second _ _ below))

sorted-made : (last : ℕ) (es : List (KeyTexts × Cell)) → EachStands last es → T (is_sorted key_cmp es) → T (is_sorted (slice_cmp nat_cmp) (map in_place es))
unfolding in_place
sorted-made last [] all sorted = tt
sorted-made last (e ∷ es) all sorted = both _ _ (below-made last e es all.0 all.1 (first _ _ sorted)) (sorted-made last es all.1 (second _ _ sorted))

-- ---- what is found

-- the place of a key has what the register has under the key
find-made : (last : ℕ) (key : RowKey) (es : List (KeyTexts × Cell)) → IsKey key → EachStands last es
    → find (slice_cmp nat_cmp) (place_in (cell_key key)) (map in_place es) ≡ option_map (content key) (find key_cmp (cell_key key) es)
unfolding in_place
find-made last key [] is all = refl
find-made last key (e ∷ es) is all =
    let rest = find (slice_cmp nat_cmp) (place_in (cell_key key)) (map in_place es) in
    let more = find-made last key es is all.1 in
    let stands = all.0 in
    let tests : eq_by_cmp (slice_cmp nat_cmp) (place_in (cell_key key)) (place_in e.0) ≡ eq_by_cmp key_cmp (cell_key key) e.0 =
    ap is_eq (ap (λ k. slice_cmp nat_cmp (place_in (cell_key key)) (place_in k)) stands.under
    ∙ (place-order key stands.row_key is stands.is_key ∙ ap (key_cmp (cell_key key)) (sym stands.under))) in
    ap (λ b. cond b (Some (content_in e.0 e.1)) rest) tests
    ∙ elim (eq_by_cmp key_cmp (cell_key key) e.0) as (λ b. eq_by_cmp key_cmp (cell_key key) e.0 ≡ b
    → cond b (Some (content_in e.0 e.1)) rest ≡ option_map (content key) (cond b (Some e.1) (find key_cmp (cell_key key) es))) [
      | true ↦ λ same. ap Some (ap (λ k. content_in k e.1) (sym (same_key (cell_key key) e.0 same)) ∙ content-same key e.1)
      | false ↦ λ _. more
    ] refl

-- a place that has something is that of a key
only-made : (last : ℕ) (place : CellPlace) (kept : CellContent) (es : List (KeyTexts × Cell)) → EachStands last es → find (slice_cmp nat_cmp) place (map in_place es) ≡ Some kept
    → (key : RowKey) × IsKey key × (place ≡ place_in (cell_key key))
unfolding in_place
only-made last place kept [] all found = cc
only-made last place kept (e ∷ es) all found =
    elim (eq_by_cmp (slice_cmp nat_cmp) place (place_in e.0)) as (λ b. eq_by_cmp (slice_cmp nat_cmp) place (place_in e.0) ≡ b
    → cond b (Some (content_in e.0 e.1)) (find (slice_cmp nat_cmp) place (map in_place es)) ≡ Some kept → (key : RowKey) × IsKey key × (place ≡ place_in (cell_key key))) [
      | true ↦ λ same _. (all.0.row_key, all.0.is_key, tied place (place_in e.0) same ∙ ap place_in all.0.under)
      | false ↦ λ _ later. only-made last place kept es all.1 later
    ] refl found

-- ---- the cells of a register are those of its tables

places_antisymmetric : (a b : CellPlace) → slice_cmp nat_cmp a b ≡ Equal → a ≡ b
places_antisymmetric = slice_cmp-IsAntisymmetric nat_cmp-IsAntisymmetric

pub made-sorted : (last : ℕ) (held : Held) → AreRowCells last held → T (is_sorted (slice_cmp nat_cmp) (made held))
unfolding made
made-sorted last held all = sorted-made last (entries held) (each-stands last held all) (entries_sorted held)

pub cells-made : (last : ℕ) (held : Held) (cells : CellsByPlace) → AreRowCells last held → AreCellsOf held cells → entries cells ≡ made held
unfolding made
cells-made last held cells all are =
    let each = each-stands last held all in
    let chain : (place : CellPlace) (key : RowKey) → IsKey key → place ≡ place_in (cell_key key) → find (slice_cmp nat_cmp) place (entries cells) ≡ find (slice_cmp nat_cmp) place (map in_place (entries held)) =
    λ place key is under.
    sym (get-entries cells place)
    ∙ (ap (get cells) under
    ∙ (are.each key is
    ∙ (ap (option_map (content key)) (get-entries held (cell_key key))
    ∙ (sym (find-made last key (entries held) is each) ∙ ap (λ p. find (slice_cmp nat_cmp) p (map in_place (entries held))) (sym under))))) in
    same_entries (slice_cmp nat_cmp) nat_list_cmp_total places_antisymmetric (entries cells) (map in_place (entries held)) (entries_sorted cells)
    (sorted-made last (entries held) each (entries_sorted held))
    (λ place. by_found place (find (slice_cmp nat_cmp) place (entries cells)) (find (slice_cmp nat_cmp) place (map in_place (entries held))) refl refl chain each)
  where
    by_found : (place : CellPlace) (a b : Option CellContent) → find (slice_cmp nat_cmp) place (entries cells) ≡ a → find (slice_cmp nat_cmp) place (map in_place (entries held)) ≡ b
        → ((place : CellPlace) (key : RowKey) → IsKey key → place ≡ place_in (cell_key key)
        → find (slice_cmp nat_cmp) place (entries cells) ≡ find (slice_cmp nat_cmp) place (map in_place (entries held)))
        → EachStands last (entries held) → find (slice_cmp nat_cmp) place (entries cells) ≡ find (slice_cmp nat_cmp) place (map in_place (entries held))
    by_found place None None is_a is_b chain each = is_a ∙ sym is_b
    by_found place (Some kept) b is_a is_b chain each = let key = are.only place kept (get-entries cells place ∙ is_a) in chain place key.0 key.1 key.2
    by_found place None (Some kept) is_a is_b chain each = let key = only-made last place kept (entries held) each is_b in chain place key.0 key.1 key.2

pub made-cells : (last : ℕ) (held : Held) (cells : CellsByPlace) → AreRowCells last held → entries cells ≡ made held → AreCellsOf held cells
unfolding made
made-cells last held cells all same =
    let each = each-stands last held all in
    record {
      each = λ key is. get-entries cells (place_in (cell_key key))
          ∙ (ap (find (slice_cmp nat_cmp) (place_in (cell_key key))) same
          ∙ (find-made last key (entries held) is each ∙ ap (option_map (content key)) (sym (get-entries held (cell_key key)))));
      only = λ place kept is. only-made last place kept (entries held) each (ap (find (slice_cmp nat_cmp) place) (sym same) ∙ (sym (get-entries cells place) ∙ is));
    }

-- ---- cells of a page

abbrev pub in_page : ℕ × ℕ → CellContent → Bool
in_page bounds c = nat_lt bounds.0 c.touched && nat_le c.touched bounds.1

-- those of these cells that an entry of the page touched last
abbrev pub paged : ℕ × ℕ → List (CellPlace × CellContent) → List (CellPlace × CellContent)
paged bounds es = filter (λ e. in_page bounds e.1) es

cell-touched : (e : CellPlace × CellContent) → (cell_at e).touched ≡ e.1.touched
cell-touched ([], content) = refl
cell-touched (kind ∷ name, content) = refl

filter-cells : (bounds : ℕ × ℕ) (es : List (CellPlace × CellContent)) → filter (λ cell. nat_lt bounds.0 cell.touched && nat_le cell.touched bounds.1) (map cell_at es) ≡ map cell_at (paged bounds es)
filter-cells bounds [] = refl
filter-cells bounds (e ∷ es) =
    let rest = filter (λ cell. nat_lt bounds.0 cell.touched && nat_le cell.touched bounds.1) (map cell_at es) in
    let more = filter-cells bounds es in
    ap (λ t. cond (nat_lt bounds.0 t && nat_le t bounds.1) (cell_at e ∷ rest) rest) (cell-touched e)
    ∙ elim (in_page bounds e.1) as (λ b. cond b (cell_at e ∷ rest) rest ≡ map cell_at (cond b (e ∷ paged bounds es) (paged bounds es))) [
      | true ↦ ap (λ l. cell_at e ∷ l) more
      | false ↦ more
    ]

pub kept-paged : (tables : KeptTables) (bounds : ℕ × ℕ) → kept_page tables bounds ≡ map cell_at (paged bounds (entries tables.cells))
kept-paged tables bounds = filter-cells bounds (entries tables.cells)

filter-made : (last : ℕ) (bounds : ℕ × ℕ) (es : List (KeyTexts × Cell)) → EachStands last es
    → map cell_to_keep (filter (λ e. is_touched bounds.0 bounds.1 e.1) es) ≡ map cell_at (paged bounds (map in_place es))
unfolding in_place
filter-made last bounds [] all = refl
filter-made last bounds (e ∷ es) all =
    let rest = filter (λ e. is_touched bounds.0 bounds.1 e.1) es in
    let pages = paged bounds (map in_place es) in
    let more = filter-made last bounds es all.1 in
    elim (is_touched bounds.0 bounds.1 e.1) as (λ b. map cell_to_keep (cond b (e ∷ rest) rest) ≡ map cell_at (cond b ((place_in e.0, content_in e.0 e.1) ∷ pages) pages)) [
      | true ↦ (λ i. kept-at last e all.0 i ∷ more i)
      | false ↦ more
    ]
    ∙ ap (λ t. map cell_at (cond (nat_lt bounds.0 t && nat_le t bounds.1) ((place_in e.0, content_in e.0 e.1) ∷ pages) pages)) (sym (touched-same e.0 e.1))

pub made-paged : (last : ℕ) (held : Held) (bounds : ℕ × ℕ) → AreRowCells last held → made_page held bounds ≡ map cell_at (paged bounds (made held))
unfolding made
made-paged last held bounds all = filter-made last bounds (entries held) (each-stands last held all)

-- ---- what is known of places

-- a place of a register has the number of a kind
abbrev pub HasKind : CellPlace → Type 0
HasKind [] = ⊥
HasKind (kind ∷ name) = 1 ≤ kind

key-kind : (key : RowKey) → HasKind (place_in (cell_key key))
key-kind (RowKey.Rec lei) = omega arith
key-kind (RowKey.Rel start kind end) = omega arith
key-kind (RowKey.Exc lei category) = omega arith

each-kind : (last : ℕ) (es : List (KeyTexts × Cell)) → EachStands last es → AllByRecursion (λ e. HasKind e.0) (map in_place es)
unfolding in_place
each-kind last [] all = tt
each-kind last (e ∷ es) all = (subst (λ k. HasKind (place_in k)) (sym all.0.under) (key-kind all.0.row_key), each-kind last es all.1)

pub made-kinds : (last : ℕ) (held : Held) → AreRowCells last held → AllByRecursion (λ e. HasKind e.0) (made held)
unfolding made
made-kinds last held all = each-kind last (entries held) (each-stands last held all)

found-number : (last : ℕ) (place : CellPlace) (kept : CellContent) (es : List (KeyTexts × Cell)) → EachStands last es → find (slice_cmp nat_cmp) place (map in_place es) ≡ Some kept
    → (1 ≤ kept.touched) × (kept.touched ≤ last)
unfolding in_place
found-number last place kept [] all found = cc
found-number last place kept (e ∷ es) all found =
    elim (eq_by_cmp (slice_cmp nat_cmp) place (place_in e.0)) as (λ b. cond b (Some (content_in e.0 e.1)) (find (slice_cmp nat_cmp) place (map in_place es)) ≡ Some kept
    → (1 ≤ kept.touched) × (kept.touched ≤ last)) [
      | true ↦ λ here.
          let own : content_in e.0 e.1 ≡ kept = cc in
          let is : kept.touched ≡ e.1.entry = ap (λ c. c.touched) (sym own) ∙ touched-same e.0 e.1 in
          (omega (arith, is, all.0.some), omega (arith, is, all.0.most))
      | false ↦ λ later. found-number last place kept es all.1 later
    ] found

-- what is found in the places of a register was touched by its entries
pub made-number : (last : ℕ) (held : Held) (place : CellPlace) (kept : CellContent) → AreRowCells last held → find (slice_cmp nat_cmp) place (made held) ≡ Some kept
    → (1 ≤ kept.touched) × (kept.touched ≤ last)
unfolding made
made-number last held place kept all found = found-number last place kept (entries held) (each-stands last held all) found

-- ---- touched keys as they are kept

kept-told : (told : Touched) → IsItemOf told.key told.item → kept_cell told ≡ cell_to_keep (cell_under_key told)
kept-told told own = by_key told.key told.entry told.item own
  where
    of_content : (key : RowKey) (entry : ℕ) (item : Option Item) → cell_to_keep (cell_key key, cell_with entry item)
        ≡ record { kind = key_kind key; name = key_name key; touched = entry; row = (content key (cell_with entry item)).row }
    of_content (RowKey.Rec lei) entry item = refl
    of_content (RowKey.Rel start kind end) entry item = refl
    of_content (RowKey.Exc lei category) entry item = refl

    by_key : (key : RowKey) (entry : ℕ) (item : Option Item) → IsItemOf key item
        → kept_cell (record { key = key; entry = entry; item = item }) ≡ cell_to_keep (cell_key key, cell_with entry item)
    by_key key entry item own =
        ap (λ c. record { kind = key_kind key; name = key_name key; touched = entry; row = c.row }) (sym (item_kept key entry item own)) ∙ sym (of_content key entry item)

all-kept-told : (list : List Touched) → AllByRecursion (λ told. IsItemOf told.key told.item) list → map kept_cell list ≡ map cell_to_keep (map cell_under_key list)
all-kept-told [] own = refl
all-kept-told (told ∷ list) own =
    let one = kept-told told own.0 in
    let rest = all-kept-told list own.1 in
    λ i. one i ∷ rest i

-- the cells of a page of the register
pub touched-page : (after upto : ℕ) (held : Held) (cells : List KeptCell) → AreCellsTouched after upto held cells → cells ≡ made_page held (after, upto)
touched-page after upto held cells is = is.are ∙ (all-kept-told is.list is.own ∙ ap (map cell_to_keep) is.told)
