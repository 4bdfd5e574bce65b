-- The numbers of entries: they rise with the ids of the rows, and the last is the greatest.
use Rattle.std.proofs.Common.{◌≡◌, ◌⊎◌, inl, inr, ◌≤◌, ◌<◌, ◌-◌, ℕ, pos, List, [], ◌∷◌, ◌++◌, length, map, slice_get, Option, None, Some, Less, refl, sym, ap, subst, subst₂, ◌∙◌, arith, length-append}
use Rattle.std.specs.FinMap.{find, get-from_entries}
use Rattle.std.specs.List.{AllByRecursion}
use Rattle.std.specs.Cmp.Lexicographic.{slice_cmp}
use Rattle.std.specs.Ordering.{eq_by_cmp, int_cmp, nat_cmp}
use Rattle.std.proofs.lemmas.Cmp.{nat_list_cmp_total}
use Rattle.std.proofs.lemmas.Bool.Decides.{nat_tests}
use Rattle.std.proofs.Common.{Bool, true, false, cond}
use Rattle.sqlite_value.specs.declared.value.Value.TheVariants.{Int}
use Rattle.sqlite_value.specs.Order.{Row, value_cmp}
use Rattle.sqlite_value.proofs.OrderLemmas.{value_cmp-Int}
use Rattle.sqlite_trees.specs.Tree.{IsAscending, IsTable, rowid}
use Rattle.sqlite_trees.proofs.ListLemmas.{all-append}
use Rattle.lei_values.specs.KeptTables.{AreKept, CellContent, CellPlace, IsEntryNumber, KeptTables, RiseFrom, last_number}
use Rattle.store_tables.specs.Stored.{CellForm, entry_of, form_1, form_2}
use Rattle.std.proofs.Common.{option_and_then}
use Rattle.sqlite_trees.specs.Tree.{Trees}
use Rattle.sqlite_schema.specs.declared.schema.Schema.{Schema}
use Rattle.store_tables.specs.Told.{StoredRows, place_and_content, stored_rows_in, tables_in_rows, told_as, told_in_rows, told_in_trees}
use Rattle.store_tables.proofs.EntryReading.{cell_number, entry_number}
use Rattle.store_tables.proofs.RowLemmas.{AreEntries, AreTold, IsCell, IsEntry, told_as_is, told_one}

pub seq : Row → ℕ
seq r = (entry_of r).seq

less_numbers : (m n : ℕ) → int_cmp (pos m) (pos n) ≡ Less → m < n
less_numbers m n below = grind (arith, nat_tests)

pub id_is : (r : Row) → IsEntry r → rowid r ≡ Int (pos (entry_of r).seq)
id_is r is = ap rowid is.0

pub numbers_rise : (a b : Row) → IsEntry a → IsEntry b → value_cmp (rowid a) (rowid b) ≡ Less
    → (entry_of a).seq < (entry_of b).seq
numbers_rise a b p q below =
    less_numbers _ _ (sym (value_cmp-Int (pos (entry_of a).seq) (pos (entry_of b).seq))
    ∙ subst₂ (λ v w. value_cmp v w ≡ Less) (id_is a p) (id_is b q) below)

-- ---- they rise

rise_from : (n : ℕ) (rows : List Row) → AllByRecursion (λ r. n < (entry_of r).seq) rows → IsTable rows
    → AllByRecursion IsEntry rows → RiseFrom n (map entry_of rows)
rise_from n [] above up each = tt
rise_from n (r ∷ rows) above up each =
    (above.0, rise_from (entry_of r).seq rows (later rows up.0 each.1) up.1 each.1)
  where
    later : (rows : List Row) → AllByRecursion (λ s. value_cmp (rowid r) (rowid s) ≡ Less) rows
        → AllByRecursion IsEntry rows → AllByRecursion (λ s. (entry_of r).seq < (entry_of s).seq) rows
    later [] below all = tt
    later (s ∷ rows) below all = (numbers_rise r s each.0 all.0 below.0, later rows below.1 all.1)

all_above : (rows : List Row) → AllByRecursion IsEntry rows → AllByRecursion (λ r. 0 < (entry_of r).seq) rows
all_above [] each = tt
all_above (r ∷ rows) each =
    (let low = (entry_number (entry_of r) each.0.1).0 in omega (arith, low), all_above rows each.1)

-- ---- cells have the number of an entry

found_number : (form : CellForm) (q : CellPlace) (content : CellContent) (rows : List Row)
    → AllByRecursion (IsCell form) rows
    → find (slice_cmp nat_cmp) q (map (place_and_content form) rows) ≡ Some content → IsEntryNumber content.touched
found_number form q content [] each found = absurd (cc)
found_number form q content (r ∷ rows) each found = go (eq_by_cmp (slice_cmp nat_cmp) q (place_and_content form r).0)
    found (found_number form q content rows each.1)
  where
    go : (b : Bool)
        → cond b (Some (place_and_content form r).1) (find (slice_cmp nat_cmp) q (map (place_and_content form) rows)) ≡ Some content
        → (find (slice_cmp nat_cmp) q (map (place_and_content form) rows) ≡ Some content → IsEntryNumber content.touched)
        → IsEntryNumber content.touched
    go true is more =
        let same : (place_and_content form r).1 ≡ content = cc in
        let n = cell_number (form.read r) each.0.1 in
        subst (λ c. IsEntryNumber c.touched) same (n.0, omega (arith, n.1))
    go false is more = more is

-- Told tables are kept tables.
pub told_kept : (form : CellForm) (entries cells : List Row) → AreTold form entries cells
    → AreKept (tables_in_rows form entries cells)
told_kept form entries cells are = record {
  entries = rise_from 0 entries (all_above entries are.entries.each) are.entries.rise are.entries.each;
  cells = λ place content is. found_number form place content cells are.cells.each
      (sym (get-from_entries nat_list_cmp_total (map (place_and_content form) cells) place) ∙ is);
}

-- ---- the last

pub record Snoc {X : Type 0} (xs : List X) : Type 0 where
  pub front : List X
  pub last : X
  pub is : xs ≡ front ++ last ∷ []

pub snoc : {X : Type 0} (xs : List X) → (xs ≡ []) ⊎ Snoc xs
snoc [] = inl refl
snoc (x ∷ xs) = elim (snoc xs) [
  | inl none ↦ inr (record { front = []; last = x; is = ap (λ ys. x ∷ ys) none })
  | inr it ↦ inr (record { front = x ∷ it.front; last = it.last; is = ap (λ ys. x ∷ ys) it.is })
]

get_last : {X : Type 0} (xs : List X) (x : X) → slice_get (xs ++ x ∷ []) (length xs) ≡ Some x
get_last [] x = refl
get_last (y ∷ xs) x = get_last xs x

pub last_of : {X : Type 0} (xs : List X) (x : X)
    → slice_get (xs ++ x ∷ []) (length (xs ++ x ∷ []) - 1) ≡ Some x
last_of xs x =
    let place : length (xs ++ x ∷ []) - 1 ≡ length xs = omega (arith, length-append xs (x ∷ [])) in
    ap (slice_get (xs ++ x ∷ [])) place ∙ get_last xs x

pub map_snoc : {X Y : Type 0} (f : X → Y) (xs : List X) (x : X) → map f (xs ++ x ∷ []) ≡ map f xs ++ f x ∷ []
map_snoc f [] x = refl
map_snoc f (y ∷ xs) x = ap (λ ys. f y ∷ ys) (map_snoc f xs x)

pub before_last : {X : Type 0} (R : X → X → Type 0) (xs : List X) (x : X) → IsAscending R (xs ++ x ∷ [])
    → AllByRecursion (λ y. R y x) xs
before_last {X = X} R [] x up = tt
before_last {X = X} R (y ∷ xs) x up = (at_last xs up.0, before_last R xs x up.1)
  where
    at_last : (xs : List X) → AllByRecursion (R y) (xs ++ x ∷ []) → R y x
    at_last [] all = all.0
    at_last (z ∷ xs) all = at_last xs all.1

pub front_of : {X : Type 0} (P : X → Type 0) (xs : List X) (x : X) → AllByRecursion P (xs ++ x ∷ [])
    → AllByRecursion P xs × P x
front_of P [] x all = (tt, all.0)
front_of P (y ∷ xs) x all = let it = front_of P xs x all.1 in ((all.0, it.0), it.1)

pub last_number_of : (form : CellForm) (entries cells front : List Row) (last : Row)
    → entries ≡ front ++ last ∷ []
    → last_number (tables_in_rows form entries cells) ≡ (entry_of last).seq
last_number_of form entries cells front last is =
    let mapped : map entry_of entries ≡ map entry_of front ++ entry_of last ∷ [] = ap (map entry_of) is
    ∙ map_snoc entry_of front last in
    rw (mapped, last_of (map entry_of front) (entry_of last)) refl

-- each number is at most the last
pub all_at_most : (form : CellForm) (entries cells : List Row) → AreEntries entries
    → AllByRecursion (λ r. (entry_of r).seq ≤ last_number (tables_in_rows form entries cells)) entries
all_at_most form entries cells are = elim (snoc entries) [
  | inl none ↦ subst (AllByRecursion (λ r. (entry_of r).seq ≤ last_number (tables_in_rows form entries cells)))
      (sym none) tt
  | inr it ↦
      let top = last_number_of form entries cells it.front it.last it.is in
      let each = front_of IsEntry it.front it.last (subst (AllByRecursion IsEntry) it.is are.each) in
      let below = before_last (λ a b. value_cmp (rowid a) (rowid b) ≡ Less) it.front it.last
      (subst IsTable it.is are.rise) in
      let front : AllByRecursion (λ r. (entry_of r).seq ≤ last_number (tables_in_rows form entries cells)) it.front
      = low it.front it.last each.1 top each.0 below in
      subst (AllByRecursion (λ r. (entry_of r).seq ≤ last_number (tables_in_rows form entries cells))) (sym it.is)
      (all-append (λ r. (entry_of r).seq ≤ last_number (tables_in_rows form entries cells)) it.front (it.last ∷ [])
      front (omega (arith, top), tt))
]
  where
    low : (xs : List Row) (last : Row) → IsEntry last
        → last_number (tables_in_rows form entries cells) ≡ (entry_of last).seq → AllByRecursion IsEntry xs
        → AllByRecursion (λ r. value_cmp (rowid r) (rowid last) ≡ Less) xs
        → AllByRecursion (λ r. (entry_of r).seq ≤ last_number (tables_in_rows form entries cells)) xs
    low [] last is top each below = tt
    low (r ∷ xs) last is top each below = (
      let less = numbers_rise r last each.0 is below.0 in omega (arith, less, top),
      low xs last is top each.1 below.1,
    )

as_kept : (form : CellForm) (entries cells : List Row) (t : KeptTables) → told_as form entries cells ≡ Some t
    → AreKept t
as_kept form entries cells t told =
    let it = told_as_is form entries cells t told in subst AreKept (sym it.1) (told_kept form entries cells it.0)

pub told_are_kept : (schema : Schema) (trees : Trees) (t : KeptTables) → told_in_trees schema trees ≡ Some t
    → AreKept t
told_are_kept schema trees t told = go (stored_rows_in schema trees) told
  where
    go : (o : Option StoredRows) → option_and_then told_in_rows o ≡ Some t → AreKept t
    go None e = absurd (cc)
    go (Some rows) e = elim (told_one rows t e) [
      | inl first ↦ as_kept form_1 rows.entries rows.cells t first
      | inr second ↦ as_kept form_2 rows.entries rows.cells2 t second
    ]
