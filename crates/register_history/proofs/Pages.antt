-- Cells that are compared page by page.
use Rattle.std.proofs.Common.{◌≡◌, ℕ, zero, suc, ◌<◌, ◌≤◌, ◌+◌, ◌*◌, ◌&&◌, nat_le, nat_lt, Bool, true, false, cond, List, [], ◌∷◌, map, Option, Some, None, refl, sym, ap, ◌∙◌, arith}
use Rattle.std.proofs.lemmas.Bool.Decides.{nat_tests}
use Rattle.std.proofs.lemmas.Cmp.{nat_list_cmp_total}
use Rattle.std.specs.Cmp.Lexicographic.{slice_cmp}
use Rattle.std.specs.FinMap.{entries, entries_sorted, get-entries, nat_cmp-IsAntisymmetric, slice_cmp-IsAntisymmetric}
use Rattle.std.specs.FinMap.Entries.{find, same_entries}
use Rattle.std.specs.Ordering.{nat_cmp}
use Rattle.std.specs.declared.cmp.Ordering.TheVariants.{Equal}
use Rattle.lei_values.specs.KeptTables.{AreTouched, CellContent, CellPlace, KeptTables, cell_at}
use Rattle.lei_values.proofs.Places.{tied}
use Rattle.register_table.specs.Held.{Held}
use Rattle.register_history.specs.Damage.{kept_page, made_page, page_bounds}
use Rattle.register_history.specs.Kept.{AreCellsOf}
use Rattle.register_history.specs.Standing.{AreRowCells}
use Rattle.std.specs.List.{AllByRecursion}
use Rattle.std.proofs.lemmas.Bool.{leb-false, leb-true}
use Rattle.register_history.proofs.Cells.{HasKind, cells-made, in_page, kept-paged, made, made-cells, made-kinds, made-number, made-paged, made-sorted, paged}
use Rattle.register_history.proofs.Finding.{find_passing, only}

-- ---- a cell is determined by its place and content

same_one : (e f : CellPlace × CellContent) → HasKind f.0 → cell_at e ≡ cell_at f → e ≡ f
same_one ([], c) ([], d) some same = absurd some
same_one (k ∷ n, c) ([], d) some same = absurd some
same_one ([], c) (l ∷ m, d) some same = (let kinds : 0 ≡ l = ap (λ x. x.kind) same in absurd (omega (arith, kinds, some)))
same_one (k ∷ n, c) (l ∷ m, d) some same =
    let kinds : k ≡ l = ap (λ x. x.kind) same in
    let names : n ≡ m = ap (λ x. x.name) same in
    let touched : c.touched ≡ d.touched = ap (λ x. x.touched) same in
    let rows : c.row ≡ d.row = ap (λ x. x.row) same in
    λ i. (kinds i ∷ names i, record { touched = touched i; row = rows i })

head_same : {X : Type 0} (x y : X) (xs ys : List X) → x ∷ xs ≡ y ∷ ys → x ≡ y
head_same x y xs ys is = cc

tail_same : {X : Type 0} (x y : X) (xs ys : List X) → x ∷ xs ≡ y ∷ ys → xs ≡ ys
tail_same x y xs ys is = cc

same_list : (es fs : List (CellPlace × CellContent)) → AllByRecursion (λ f. HasKind f.0) fs → map cell_at es ≡ map cell_at fs → es ≡ fs
same_list [] [] kinds same = refl
same_list [] (f ∷ fs) kinds same = cc
same_list (e ∷ es) [] kinds same = cc
same_list (e ∷ es) (f ∷ fs) kinds same =
    let one = same_one e f kinds.0 (head_same (cell_at e) (cell_at f) (map cell_at es) (map cell_at fs) same) in
    let rest = same_list es fs kinds.1 (tail_same (cell_at e) (cell_at f) (map cell_at es) (map cell_at fs) same) in
    λ i. one i ∷ rest i

paged-kinds : (bounds : ℕ × ℕ) (es : List (CellPlace × CellContent)) → AllByRecursion (λ e. HasKind e.0) es → AllByRecursion (λ e. HasKind e.0) (paged bounds es)
paged-kinds bounds [] kinds = tt
paged-kinds bounds (e ∷ es) kinds = elim (in_page bounds e.1) as (λ b. AllByRecursion (λ e. HasKind e.0) (cond b (e ∷ paged bounds es) (paged bounds es))) [
  | true ↦ (kinds.0, paged-kinds bounds es kinds.1)
  | false ↦ paged-kinds bounds es kinds.1
]

-- ---- which page a cell is in

covers : (n touched : ℕ) → 1 ≤ touched → touched ≤ 16 * n → (k : ℕ) × (k < n) × (16 * k < touched) × (touched ≤ 16 * k + 16)
covers zero touched some most = absurd (omega (arith, some, most))
covers (suc n) touched some most =
    elim (nat_le touched (16 * n)) as (λ b. nat_le touched (16 * n) ≡ b → (k : ℕ) × (k < suc n) × (16 * k < touched) × (touched ≤ 16 * k + 16)) [
      | true ↦ λ is.
          let earlier = covers n touched some (leb-true touched (16 * n) is) in
          (earlier.0, omega (arith, earlier.1), earlier.2, earlier.3)
      | false ↦ λ is.
          let above = leb-false touched (16 * n) is in
          (n, omega arith, omega (arith, above), omega (arith, most))
    ] refl

within : (last k touched : ℕ) → 16 * k < touched → touched ≤ 16 * k + 16 → touched ≤ last
    → nat_lt (page_bounds last k).0 touched && nat_le touched (page_bounds last k).1 ≡ true
within last k touched more most few =
    let begun : nat_lt (16 * k) last ≡ true = grind (arith, nat_tests) in
    let low : nat_lt (16 * k) touched ≡ true = grind (arith, nat_tests) in
    let high : nat_le touched (16 * k + 16) ≡ true = grind (arith, nat_tests) in
    let top : nat_le touched last ≡ true = grind (arith, nat_tests) in
    rw begun (elim (nat_le (16 * k + 16) last) as (λ b. nat_lt (16 * k) touched && nat_le touched (cond b (16 * k + 16) last) ≡ true) [
      | true ↦ rw (low, high) refl
      | false ↦ rw (low, top) refl
    ])

beyond : (last k touched : ℕ) → last ≤ 16 * k → last < touched → touched ≤ 18446744073709551615
    → nat_lt (page_bounds last k).0 touched && nat_le touched (page_bounds last k).1 ≡ true
beyond last k touched ended more most =
    let none : nat_lt (16 * k) last ≡ false = grind (arith, nat_tests) in
    let low : nat_lt last touched ≡ true = grind (arith, nat_tests) in
    let high : nat_le touched 18446744073709551615 ≡ true = grind (arith, nat_tests) in
    rw none (rw (low, high) refl)

-- some page has it
some-page : (last n : ℕ) (c : CellContent) → last ≤ 16 * n → 1 ≤ c.touched → c.touched ≤ 18446744073709551615 → (k : ℕ) × (k < n + 1) × (in_page (page_bounds last k) c ≡ true)
some-page last n c all some most =
    elim (nat_le c.touched last) as (λ b. nat_le c.touched last ≡ b → (k : ℕ) × (k < n + 1) × (in_page (page_bounds last k) c ≡ true)) [
      | true ↦ λ is.
          let few = leb-true c.touched last is in
          let page = covers n c.touched some (omega (arith, few, all)) in
          (page.0, omega (arith, page.1), within last page.0 c.touched page.2 page.3 few)
      | false ↦ λ is. (n, omega arith, beyond last n c.touched all (leb-false c.touched last is) most)
    ] refl

-- ---- if all pages are the same

only-some : (p : CellContent → Bool) (found : Option CellContent) (c : CellContent) → only p found ≡ Some c → found ≡ Some c
only-some p None c is = cc
only-some p (Some d) c is = by_test (p d) is
  where
    by_test : (b : Bool) → cond b (Some d) None ≡ Some c → Some d ≡ Some c
    by_test true found = found
    by_test false found = cc

places_antisymmetric : (a b : CellPlace) → slice_cmp nat_cmp a b ≡ Equal → a ≡ b
places_antisymmetric = slice_cmp-IsAntisymmetric nat_cmp-IsAntisymmetric

-- the pages are the same up to a number
abbrev pub PagesAgree : ℕ → Held → KeptTables → ℕ → Type 0
PagesAgree last held tables n = (k : ℕ) → k < n → kept_page tables (page_bounds last k) ≡ made_page held (page_bounds last k)

pub pages-cells : (last n : ℕ) (held : Held) (tables : KeptTables) → AreRowCells last held → AreTouched tables.cells → last ≤ 16 * n → last ≤ 18446744073709551615 → PagesAgree last held tables (n + 1) → AreCellsOf held tables.cells
pages-cells last n held tables stand touched all bound agree =
    made-cells last held tables.cells stand
    (same_entries (slice_cmp nat_cmp) nat_list_cmp_total places_antisymmetric (entries tables.cells) (made held) (entries_sorted tables.cells) (made-sorted last held stand)
    (λ place. by_found place (find (slice_cmp nat_cmp) place (entries tables.cells)) (find (slice_cmp nat_cmp) place (made held)) refl refl))
  where
    page-same : (k : ℕ) → k < n + 1 → paged (page_bounds last k) (entries tables.cells) ≡ paged (page_bounds last k) (made held)
    page-same k below =
        let bounds = page_bounds last k in
        same_list (paged bounds (entries tables.cells)) (paged bounds (made held)) (paged-kinds bounds (made held) (made-kinds last held stand))
        (sym (kept-paged tables bounds) ∙ (agree k below ∙ made-paged last held bounds stand))

    found-same : (k : ℕ) (place : CellPlace) → k < n + 1
        → only (in_page (page_bounds last k)) (find (slice_cmp nat_cmp) place (entries tables.cells)) ≡ only (in_page (page_bounds last k)) (find (slice_cmp nat_cmp) place (made held))
    found-same k place below =
        let bounds = page_bounds last k in
        sym (find_passing (slice_cmp nat_cmp) tied (in_page bounds) place (entries tables.cells) (entries_sorted tables.cells))
        ∙ (ap (find (slice_cmp nat_cmp) place) (page-same k below)
        ∙ find_passing (slice_cmp nat_cmp) tied (in_page bounds) place (made held) (made-sorted last held stand))

    by_found : (place : CellPlace) (a b : Option CellContent) → find (slice_cmp nat_cmp) place (entries tables.cells) ≡ a → find (slice_cmp nat_cmp) place (made held) ≡ b
        → find (slice_cmp nat_cmp) place (entries tables.cells) ≡ find (slice_cmp nat_cmp) place (made held)
    by_found place None None is_a is_b = is_a ∙ sym is_b
    by_found place (Some c) b is_a is_b =
        let number = touched place c (get-entries tables.cells place ∙ is_a) in
        let page = some-page last n c all number.0 number.1 in
        let p = in_page (page_bounds last page.0) in
        let kept : only p (find (slice_cmp nat_cmp) place (entries tables.cells)) ≡ Some c = ap (only p) is_a ∙ ap (λ b. cond b (Some c) None) page.2 in
        is_a ∙ sym (only-some p (find (slice_cmp nat_cmp) place (made held)) c (sym (found-same page.0 place page.1) ∙ kept))
    by_found place None (Some c) is_a is_b =
        let number = made-number last held place c stand is_b in
        let page = some-page last n c all number.0 (omega (arith, number.1, bound)) in
        let p = in_page (page_bounds last page.0) in
        let shown : only p (find (slice_cmp nat_cmp) place (made held)) ≡ Some c = ap (only p) is_b ∙ ap (λ b. cond b (Some c) None) page.2 in
        only-some p (find (slice_cmp nat_cmp) place (entries tables.cells)) c (found-same page.0 place page.1 ∙ shown) ∙ sym is_b

pub cells-pages : (last : ℕ) (held : Held) (tables : KeptTables) (bounds : ℕ × ℕ) → AreRowCells last held → AreCellsOf held tables.cells → kept_page tables bounds ≡ made_page held bounds
cells-pages last held tables bounds stand are =
    kept-paged tables bounds ∙ (ap (λ es. map cell_at (paged bounds es)) (cells-made last held tables.cells stand are) ∙ sym (made-paged last held bounds stand))
