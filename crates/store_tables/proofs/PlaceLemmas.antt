-- The places of cells: no two rows of a table of cells have the same place, so their map has each of them, in the order
-- of places.
use Rattle.std.proofs.Common.{◌≡◌, ℕ, ℤ, pos, Bool, true, false, ◌&&◌, cond, T, List, [], ◌∷◌, length, map, None, Some, Ordering, Less, Equal, Greater, is_eq, is_lt, refl, sym, ap, ap₂, inl, inr, subst, subst₂, ◌∙◌, arith, true≢false, IsPermutation}
use Rattle.std.specs.List.{AllByRecursion}
use Rattle.std.specs.Ordering.{is_ne, eq_by_cmp, int_cmp, nat_cmp, ordering_then}
use Rattle.std.specs.Cmp.Lexicographic.{slice_cmp}
use Rattle.std.specs.FinMap.{entries, entries-insert, entries_sorted, len-empty, len-entries, find, from_entries, get-entries, get-from_entries}
use Rattle.std.proofs.lemmas.Cmp.{nat_list_cmp_total}
use Rattle.std.specs.FinMap.Entries.{below_all, by_order, is_sorted, put}
use Rattle.std.proofs.lemmas.Bool.Decides.{nat_tests}
use Rattle.std.proofs.lemmas.List.Sorted.{IsPermutation-sym, IsPermutation-cons, IsPermutation-middle, IsPermutation-refl, IsPermutation-trans}
use Rattle.sqlite_value.specs.declared.value.Value.TheVariants.{Int, Text}
use Rattle.sqlite_value.specs.declared.keys.Collation.TheVariants.{Binary}
use Rattle.sqlite_value.specs.Order.{Row, column, value_cmp}
use Rattle.sqlite_value.specs.Keys.{first_key, plain}
use Rattle.sqlite_value.proofs.OrderLemmas.{value_cmp-Int, value_cmp-Text}
use Rattle.sqlite_trees.specs.Tree.{IsAscending, IsTable, rowid}
use Rattle.sqlite_trees.proofs.ListLemmas.{all-permutation, pull_back}
use Rattle.sqlite_sql.specs.Ops.{binary}
use Rattle.sqlite_schema.specs.Rules.{agree, clashes, differ, equal}
use Rattle.sqlite_rules.specs.Lists.{Has}
use Rattle.sqlite_rules.proofs.ListLemmas.{some_from}
use Rattle.lei_values.specs.KeptTables.{CellContent, CellPlace, cell_place}
use Rattle.lei_values.specs.declared.cell.KeptCell.{KeptCell}
use Rattle.store_tables.specs.Stored.{CellForm, cell2_of, cell_in_row, form_1, form_2, stored_cell, stored_cell2}
use Rattle.store_tables.specs.Told.{place_and_content}
use Rattle.sqlite_rules.specs.Edit.{id_in}
use Rattle.store_statements.specs.Names.{lei_of, rest_of}
use Rattle.store_tables.proofs.NameLemmas.{parts_order}
use Rattle.store_tables.proofs.RowLemmas.{AreCells, IsCell}
use Rattle.store_tables.proofs.SameLemmas.{both_of}
use Rattle.store_tables.proofs.ValueLemmas.{told_truth}

abbrev pub place : CellForm → Row → CellPlace
place form r = cell_place (form.read r)

abbrev pub same_place : CellPlace → CellPlace → Bool
same_place = eq_by_cmp (slice_cmp nat_cmp)

-- ---- SQL's test of kind and name

pub pos_cmp : (m n : ℕ) → int_cmp (pos m) (pos n) ≡ nat_cmp m n
pos_cmp m n = grind (arith, nat_tests)

int_equal : (m n : ℕ) → equal Binary (Int (pos m)) (Int (pos n)) ≡ is_eq (nat_cmp m n)
unfolding binary
int_equal m n = told_truth _ ∙ ap is_eq (value_cmp-Int (pos m) (pos n) ∙ pos_cmp m n)

text_equal : (s t : List ℕ) → equal Binary (Text s) (Text t) ≡ is_eq (slice_cmp nat_cmp s t)
unfolding binary
text_equal s t = told_truth _ ∙ ap is_eq (value_cmp-Text s t)

then_eq : (o p : Ordering) → (is_eq o && (is_eq p && true)) ≡ is_eq (ordering_then o p)
then_eq Less p = refl
then_eq Equal Less = refl
then_eq Equal Equal = refl
then_eq Equal Greater = refl
then_eq Greater p = refl

keys_agree : (m n : ℕ) (s t : List ℕ)
    → (equal Binary (Int (pos m)) (Int (pos n)) && (equal Binary (Text s) (Text t) && true))
    ≡ same_place (m ∷ s) (n ∷ t)
keys_agree m n s t = ap₂ (λ a b. a && (b && true)) (int_equal m n) (text_equal s t)
    ∙ then_eq (nat_cmp m n) (slice_cmp nat_cmp s t)

abbrev pub by_place : List ℕ
by_place = 1 ∷ 2 ∷ []

-- it says whether two cells of form 1 have the same place
pub agree_is : (a b : Row) → IsCell form_1 a → IsCell form_1 b
    → agree plain by_place a by_place b ≡ same_place (place form_1 a) (place form_1 b)
unfolding first_key
agree_is a b p q =
    subst (λ x. agree plain by_place x by_place b ≡ same_place (place form_1 a) (place form_1 b)) (sym p.0)
    (subst (λ y. agree plain by_place (stored_cell (id_in (column a 0)) (cell_in_row a)) by_place y
    ≡ same_place (place form_1 a) (place form_1 b)) (sym q.0)
    (keys_agree (cell_in_row a).kind (cell_in_row b).kind (cell_in_row a).name (cell_in_row b).name))

then_parts : (o p q : Ordering)
    → (is_eq o && (is_eq p && (is_eq q && true))) ≡ is_eq (ordering_then o (ordering_then p q))
then_parts Less p q = refl
then_parts Equal p q = then_eq p q
then_parts Greater p q = refl

parts_agree : (m n : ℕ) (s t : List ℕ)
    → (equal Binary (Int (pos m)) (Int (pos n))
    && (equal Binary (Text (lei_of s)) (Text (lei_of t))
    && (equal Binary (Text (rest_of s)) (Text (rest_of t)) && true)))
    ≡ same_place (m ∷ s) (n ∷ t)
parts_agree m n s t =
    rw (int_equal m n, text_equal (lei_of s) (lei_of t), text_equal (rest_of s) (rest_of t))
    (then_parts (nat_cmp m n) (slice_cmp nat_cmp (lei_of s) (lei_of t))
    (slice_cmp nat_cmp (rest_of s) (rest_of t))
    ∙ ap is_eq (parts_order m n s t))

abbrev pub by_both : List ℕ
by_both = 1 ∷ 2 ∷ 3 ∷ []

-- and the same for two cells of form 2, by the parts of their names
pub agree2_is : (a b : Row) → IsCell form_2 a → IsCell form_2 b
    → agree plain by_both a by_both b ≡ same_place (place form_2 a) (place form_2 b)
unfolding first_key
agree2_is a b p q =
    subst (λ x. agree plain by_both x by_both b ≡ same_place (place form_2 a) (place form_2 b)) (sym p.0)
    (subst (λ y. agree plain by_both (stored_cell2 (id_in (column a 0)) (cell2_of a)) by_both y
    ≡ same_place (place form_2 a) (place form_2 b)) (sym q.0)
    (parts_agree (cell2_of a).kind (cell2_of b).kind (cell2_of a).name (cell2_of b).name))

-- ---- no two rows have the same place

abbrev pub Apart : CellForm → List Row → Type 0
Apart form [] = Unit {0}
Apart form (r ∷ rows) =
    AllByRecursion (λ s. same_place (place form r) (place form s) ≡ false) rows × Apart form rows

-- rows with different ids differ in SQL's sense
ids_differ : (a b : ℤ) → value_cmp (Int a) (Int b) ≡ Less → differ (Int a) (Int b) ≡ true
unfolding binary
ids_differ a b below = told_truth _ ∙ ap is_ne below

pub none_true : (b : Bool) → (b ≡ true → ⊥) → b ≡ false
none_true true h = absurd (h refl)
none_true false h = refl

-- A key of the table that distinguishes places, and the ids of its rows.
pub record Keyed (form : CellForm) (key : List ℕ) : Type 0 where
  pub agrees : (a b : Row) → IsCell form a → IsCell form b
      → agree plain key a key b ≡ same_place (place form a) (place form b)
  pub ids : (id : ℤ) (c : KeptCell) → rowid (form.stored id c) ≡ Int id

pub keyed_1 : Keyed form_1 by_place
keyed_1 = record { agrees = agree_is; ids = λ id c. refl }

pub keyed_2 : Keyed form_2 by_both
keyed_2 = record { agrees = agree2_is; ids = λ id c. refl }

module _ (form : CellForm) (key : List ℕ) (keyed : Keyed form key) where
  differ_is : (a b : Row) → IsCell form a → IsCell form b → value_cmp (rowid a) (rowid b) ≡ Less
      → differ (rowid a) (rowid b) ≡ true
  differ_is a b p q below =
      let x : rowid a ≡ Int (id_in (column a 0)) = ap rowid p.0 ∙ keyed.ids _ _ in
      let y : rowid b ≡ Int (id_in (column b 0)) = ap rowid q.0 ∙ keyed.ids _ _ in
      subst₂ (λ v w. differ v w ≡ true) (sym x) (sym y)
      (ids_differ _ _ (subst₂ (λ v w. value_cmp v w ≡ Less) x y below))

  module _ (all : List Row) (unique : (x : Row) → Has all x → clashes plain key all x ≡ false) where
    apart_from : (a b : Row) → Has all a → Has all b → IsCell form a → IsCell form b
        → value_cmp (rowid a) (rowid b) ≡ Less → same_place (place form a) (place form b) ≡ false
    apart_from a b has_a has_b p q below = none_true _ (λ same.
        let agrees : agree plain key a key b ≡ true = keyed.agrees a b p q ∙ same in
        let clash : (agree plain key a key b && differ (rowid a) (rowid b))
        ≡ true = both_of _ _ agrees (differ_is a b p q below) in
        let some = some_from (λ other. agree plain key other key b && differ (rowid other) (rowid b))
        all a has_a clash in
        true≢false (sym some ∙ unique b has_b))

    each_apart : (a : Row) (rows : List Row) → Has all a → ((x : Row) → Has rows x → Has all x)
        → IsCell form a → AllByRecursion (IsCell form) rows
        → AllByRecursion (λ s. value_cmp (rowid a) (rowid s) ≡ Less) rows
        → AllByRecursion (λ s. same_place (place form a) (place form s) ≡ false) rows
    each_apart a [] has within p each below = tt
    each_apart a (s ∷ rows) has within p each below = (
      apart_from a s has (within s (inl refl)) p each.0 below.0,
      each_apart a rows has (λ x h. within x (inr h)) p each.1 below.1,
    )

    apart_in : (rows : List Row) → ((x : Row) → Has rows x → Has all x) → IsTable rows
        → AllByRecursion (IsCell form) rows → Apart form rows
    apart_in [] within up each = tt
    apart_in (r ∷ rows) within up each = (
      each_apart r rows (within r (inl refl)) (λ x h. within x (inr h)) each.0 each.1 up.0,
      apart_in rows (λ x h. within x (inr h)) up.1 each.1,
    )

  -- A schema with the index on kind and name keeps the rows apart.
  pub apart_rows : (rows : List Row) → ((x : Row) → Has rows x → clashes plain key rows x ≡ false)
      → AreCells form rows → Apart form rows
  apart_rows rows unique are = apart_in rows unique rows (λ x h. h) are.rise are.each

-- ---- their map

put_new : (k : CellPlace) (v : CellContent) (es : List (CellPlace × CellContent))
    → find (slice_cmp nat_cmp) k es ≡ None → IsPermutation ((k, v) ∷ es) (put (slice_cmp nat_cmp) k v es)
put_new k v [] none = IsPermutation-refl _
put_new k v (e ∷ es) none = go (slice_cmp nat_cmp k e.0) none (put_new k v es)
  where
    go : (o : Ordering) → cond (is_eq o) (Some e.1) (find (slice_cmp nat_cmp) k es) ≡ None
        → (find (slice_cmp nat_cmp) k es ≡ None
        → IsPermutation ((k, v) ∷ es) (put (slice_cmp nat_cmp) k v es))
        → IsPermutation ((k, v) ∷ e ∷ es)
        (by_order o ((k, v) ∷ e ∷ es) ((e.0, v) ∷ es) (e ∷ put (slice_cmp nat_cmp) k v es))
    go Less h more = IsPermutation-refl _
    go Equal h more = absurd (cc)
    go Greater h more = IsPermutation-trans _ _ _
        (IsPermutation-sym _ _ (IsPermutation-middle (e ∷ []) (k, v) es)) (IsPermutation-cons e _ _ (more h))

len_none : (es : List (CellPlace × CellContent)) → length es ≡ 0 → es ≡ []
len_none [] e = refl
len_none (x ∷ es) e = absurd (omega (arith, e))

less : (o : Ordering) → T (is_lt o) → o ≡ Less
less Less h = refl
less Equal h = absurd h
less Greater h = absurd h

parts : (a b : Bool) → T (a && b) → T a × T b
parts true true h = (tt, tt)
parts true false h = absurd h
parts false b h = absurd h

module _ (form : CellForm) where
  pub none_found : (q : CellPlace) (rows : List Row)
      → AllByRecursion (λ s. same_place q (place form s) ≡ false) rows
      → find (slice_cmp nat_cmp) q (map (place_and_content form) rows) ≡ None
  none_found q [] all = refl
  none_found q (s ∷ rows) all = ap
      (λ b. cond b (Some (place_and_content form s).1) (find (slice_cmp nat_cmp) q (map (place_and_content form) rows))) all.0
      ∙ none_found q rows all.1

  -- The entries of the map of rows with different places are what the rows put.
  pub entries_same : (rows : List Row) → Apart form rows
      → IsPermutation (map (place_and_content form) rows)
      (entries (from_entries {R = slice_cmp nat_cmp} (map (place_and_content form) rows)))
  entries_same [] apart = subst (IsPermutation []) (sym none) (IsPermutation-refl [])
    where
      none : entries (from_entries {R = slice_cmp nat_cmp} (map (place_and_content form) [])) ≡ []
      none = len_none _ (sym (len-entries (from_entries {R = slice_cmp nat_cmp} (map (place_and_content form) [])))
          ∙ len-empty (slice_cmp nat_cmp) CellContent)
  entries_same (r ∷ rows) apart =
      let m = from_entries {R = slice_cmp nat_cmp} (map (place_and_content form) rows) in
      let absent : find (slice_cmp nat_cmp) (place form r) (entries m) ≡ None =
      sym (get-entries m (place form r))
      ∙ (get-from_entries nat_list_cmp_total (map (place_and_content form) rows) (place form r)
      ∙ none_found (place form r) rows apart.0) in
      subst (IsPermutation (place_and_content form r ∷ map (place_and_content form) rows))
      (sym (entries-insert nat_list_cmp_total m (place_and_content form r).0 (place_and_content form r).1))
      (IsPermutation-trans _ _ _ (IsPermutation-cons (place_and_content form r) _ _ (entries_same rows apart.1))
      (put_new (place_and_content form r).0 (place_and_content form r).1 (entries m) absent))

  -- ---- the rows in the order of places

  abbrev pub before : Row → Row → Type 0
  before a b = slice_cmp nat_cmp (place form a) (place form b) ≡ Less

  below_each : (a : Row) (rows : List Row)
      → T (below_all (slice_cmp nat_cmp) (place form a) (map (place_and_content form) rows))
      → AllByRecursion (before a) rows
  below_each a [] h = tt
  below_each a (s ∷ rows) h = let it = parts _ _ h in (less _ it.0, below_each a rows it.1)

  sorted_rows : (rows : List Row) → T (is_sorted (slice_cmp nat_cmp) (map (place_and_content form) rows))
      → IsAscending before rows
  sorted_rows [] h = tt
  sorted_rows (r ∷ rows) h = let it = parts _ _ h in (below_each r rows it.0, sorted_rows rows it.1)

  -- the rows of a table of cells, in the order of their places
  pub record Ordered (rows : List Row) : Type 0 where
    pub all : List Row
    pub same : IsPermutation rows all
    pub up : IsAscending before all
    pub each : AllByRecursion (IsCell form) all
    pub are : entries (from_entries {R = slice_cmp nat_cmp} (map (place_and_content form) rows)) ≡ map (place_and_content form) all

  pub in_order : (rows : List Row) → Apart form rows → AllByRecursion (IsCell form) rows → Ordered rows
  in_order rows apart each =
      let m = from_entries {R = slice_cmp nat_cmp} (map (place_and_content form) rows) in
      let it = pull_back (place_and_content form) (map (place_and_content form) rows) (entries m) (entries_same rows apart) rows refl
      in
      record {
        all = it.0;
        same = it.1;
        up = sorted_rows it.0 (subst (λ es. T (is_sorted (slice_cmp nat_cmp) es)) it.2 (entries_sorted m));
        each = all-permutation (IsCell form) rows it.0 it.1 each;
        are = it.2;
      }
