-- The tests of rows as facts on each row.
use Rattle.std.proofs.Common.{◌≡◌, ◌⊎◌, inl, inr, Bool, true, false, cond, ◌&&◌, List, [], ◌∷◌, None, Some, Ordering, Less, Equal, Greater, is_lt, ℕ, length, refl, sym, ap, ◌∙◌, arith, option_and_then}
use Rattle.std.specs.List.{AllByRecursion, list_all}
use Rattle.sqlite_value.specs.Order.{Row, column, value_cmp}
use Rattle.sqlite_rules.specs.Edit.{id_in}
use Rattle.sqlite_trees.specs.Tree.{Trees, IsTable, rowid}
use Rattle.sqlite_schema.specs.declared.schema.Schema.{Schema}
use Rattle.lei_values.specs.KeptTables.{KeptTables}
use Rattle.store_statements.specs.Schemas.{both_schema, entry_schema, no_schema, store_schema, whole_schema}
use Rattle.store_tables.specs.Calls.{AreFirst}
use Rattle.store_tables.specs.Same.{same_schema}
use Rattle.store_tables.specs.Stored.{CellForm, cell_fits, entry_fits, entry_of, form_1, form_2, is_cell, is_entry, stored_entry}
use Rattle.store_tables.specs.Told.{StoredRows, are_told, is_first, is_none, is_second, rise, says_second, stored_rows_in, tables_in_rows, told_as, told_in_rows, told_in_trees}
use Rattle.store_tables.proofs.SameLemmas.{both_of, left_of, right_of, row_is, row_itself, schema_is, schema_itself}

-- ---- rows of entries and cells

abbrev pub IsEntry : Row → Type 0
IsEntry r = (r ≡ stored_entry (entry_of r)) × (entry_fits (entry_of r) ≡ true)

abbrev pub IsCell : CellForm → Row → Type 0
IsCell form r = (r ≡ form.stored (id_in (column r 0)) (form.read r)) × (cell_fits (form.read r) ≡ true)

entry_is : (r : Row) → is_entry r ≡ true → IsEntry r
entry_is r h = (row_is _ _ (left_of _ _ h), right_of _ _ h)

entry_back : (r : Row) → IsEntry r → is_entry r ≡ true
entry_back r h = both_of _ _ (row_itself _ _ h.0) h.1

cell_is : (form : CellForm) (r : Row) → is_cell form r ≡ true → IsCell form r
cell_is form r h = (row_is _ _ (left_of _ _ h), right_of _ _ h)

cell_back : (form : CellForm) (r : Row) → IsCell form r → is_cell form r ≡ true
cell_back form r h = both_of _ _ (row_itself _ _ h.0) h.1

-- ---- tests of all rows

all_of : (p : Row → Bool) (P : Row → Type 0) → ((r : Row) → p r ≡ true → P r) → (rows : List Row)
    → list_all p rows ≡ true → AllByRecursion P rows
all_of p P is [] h = tt
all_of p P is (r ∷ rows) h = (is r (left_of _ _ h), all_of p P is rows (right_of _ _ h))

all_back : (p : Row → Bool) (P : Row → Type 0) → ((r : Row) → P r → p r ≡ true) → (rows : List Row)
    → AllByRecursion P rows → list_all p rows ≡ true
all_back p P back [] h = refl
all_back p P back (r ∷ rows) h = both_of _ _ (back r h.0) (all_back p P back rows h.1)

less : (o : Ordering) → is_lt o ≡ true → o ≡ Less
less Less h = refl
less Equal h = absurd (cc)
less Greater h = absurd (cc)

rise_is : (rows : List Row) → rise rows ≡ true → IsTable rows
rise_is [] h = tt
rise_is (r ∷ rows) h = (
  all_of _ (λ later. value_cmp (rowid r) (rowid later) ≡ Less) (λ later. less _) rows
      (left_of _ _ h),
  rise_is rows (right_of _ _ h),
)

rise_back : (rows : List Row) → IsTable rows → rise rows ≡ true
rise_back [] h = refl
rise_back (r ∷ rows) h = both_of _ _
    (all_back _ (λ later. value_cmp (rowid r) (rowid later) ≡ Less) (λ later below. ap is_lt below) rows h.0)
    (rise_back rows h.1)

-- ---- the rows of entries and of cells

pub record AreEntries (rows : List Row) : Type 0 where
  pub rise : IsTable rows
  pub each : AllByRecursion IsEntry rows

pub record AreCells (form : CellForm) (rows : List Row) : Type 0 where
  pub rise : IsTable rows
  pub each : AllByRecursion (IsCell form) rows

pub record AreTold (form : CellForm) (first second : List Row) : Type 0 where
  pub entries : AreEntries first
  pub cells : AreCells form second

pub told_are : (form : CellForm) (entries cells : List Row) → are_told form entries cells ≡ true
    → AreTold form entries cells
told_are form entries cells h = record {
  entries = record {
    rise = rise_is _ (left_of _ _ (left_of _ _ h));
    each = all_of _ IsEntry entry_is _
        (right_of _ _ (left_of _ _ h));
  };
  cells = record {
    rise = rise_is _ (left_of _ _ (right_of _ _ h));
    each = all_of _ (IsCell form) (cell_is form) _
        (right_of _ _ (right_of _ _ h));
  };
}

pub are_told_by : (form : CellForm) (entries cells : List Row) → AreTold form entries cells
    → are_told form entries cells ≡ true
are_told_by form entries cells h =
    both_of _ _ (both_of _ _ (rise_back _ h.entries.rise) (all_back _ IsEntry entry_back _ h.entries.each))
    (both_of _ _ (rise_back _ h.cells.rise) (all_back _ (IsCell form) (cell_back form) _ h.cells.each))

pub are_first : (rows : List Row) → AreFirst rows → AreCells form_1 rows
are_first rows h = record {
  rise = rise_is rows (left_of _ _ h);
  each = all_of _ (IsCell form_1) (cell_is form_1) rows (right_of _ _ h);
}

pub first_back : (rows : List Row) → AreCells form_1 rows → AreFirst rows
first_back rows are = both_of _ _ (rise_back rows are.rise)
    (all_back _ (IsCell form_1) (cell_back form_1) rows are.each)

test_or_none : (b : Bool) (x t : KeptTables) → cond b (Some x) None ≡ Some t → (b ≡ true) × (t ≡ x)
test_or_none true x t h = (refl, cc)
test_or_none false x t h = absurd (cc)

pub told_as_is : (form : CellForm) (entries cells : List Row) (t : KeptTables)
    → told_as form entries cells ≡ Some t
    → AreTold form entries cells × (t ≡ tables_in_rows form entries cells)
told_as_is form entries cells t h =
    let it = test_or_none (are_told form entries cells) _ t h in (told_are form entries cells it.0, it.1)

pub told_as_back : (form : CellForm) (entries cells : List Row) → AreTold form entries cells
    → told_as form entries cells ≡ Some (tables_in_rows form entries cells)
told_as_back form entries cells h = ap (λ b. cond b (Some (tables_in_rows form entries cells)) None)
    (are_told_by form entries cells h)

-- ---- by the form of the store

pub none_is : (rows : List Row) → is_none rows ≡ true → rows ≡ []
none_is [] h = refl
none_is (r ∷ rows) h = absurd (cc)

pub none_back : (rows : List Row) → rows ≡ [] → is_none rows ≡ true
none_back rows e = ap is_none e

-- a store that says form 2 isn't of form 1
second_some : (forms : List Row) → says_second forms ≡ true → is_none forms ≡ false
second_some [] h = absurd (cc)
second_some (r ∷ []) h = refl
second_some (r ∷ s ∷ rows) h = absurd (cc)

not_both : (a b : Bool) → a ≡ false → (a && b) ≡ false
not_both a b e = rw e refl

module _ (rows : StoredRows) where
  not_first : says_second rows.forms ≡ true → is_first rows ≡ false
  not_first says = not_both _ (is_none rows.cells2) (second_some rows.forms says)

  pub told_second : says_second rows.forms ≡ true → rows.cells ≡ []
      → told_in_rows rows ≡ told_as form_2 rows.entries rows.cells2
  told_second says none = rw (not_first says, both_of _ _ says (none_back rows.cells none)) refl

  pub second_told : (t : KeptTables) → says_second rows.forms ≡ true → told_in_rows rows ≡ Some t
      → (rows.cells ≡ []) × (told_as form_2 rows.entries rows.cells2 ≡ Some t)
  second_told t says told = go (is_none rows.cells) refl
      (rw (not_first says, says) at told)
    where
      go : (b : Bool) → is_none rows.cells ≡ b
          → cond (true && b) (told_as form_2 rows.entries rows.cells2) None ≡ Some t
          → (rows.cells ≡ []) × (told_as form_2 rows.entries rows.cells2 ≡ Some t)
      go true e h = (none_is rows.cells e, h)
      go false e h = absurd (cc)

  pub told_first : rows.forms ≡ [] → rows.cells2 ≡ [] → told_in_rows rows ≡ told_as form_1 rows.entries rows.cells
  told_first forms none = rw (both_of _ _ (none_back rows.forms forms) (none_back rows.cells2 none)) refl

  pub first_told : (t : KeptTables) → rows.forms ≡ [] → told_in_rows rows ≡ Some t
      → (rows.cells2 ≡ []) × (told_as form_1 rows.entries rows.cells ≡ Some t)
  first_told t forms told = go (is_none rows.cells2) refl
      (rw (ap is_none forms, ap says_second forms) at told)
    where
      go : (b : Bool) → is_none rows.cells2 ≡ b
          → cond (true && b) (told_as form_1 rows.entries rows.cells)
          (cond (false && is_none rows.cells) (told_as form_2 rows.entries rows.cells2) None) ≡ Some t
          → (rows.cells2 ≡ []) × (told_as form_1 rows.entries rows.cells ≡ Some t)
      go true e h = (none_is rows.cells2 e, h)
      go false e h = absurd (cc)

-- ---- under a schema

not_same : (a b : Schema) → (a ≡ b → ⊥) → same_schema a b ≡ false
not_same a b other = go (same_schema a b) refl
  where
    go : (t : Bool) → same_schema a b ≡ t → same_schema a b ≡ false
    go true e = absurd (other (schema_is a b e))
    go false e = e

first : {X : Type 0} (b : Bool) (x y : X) → b ≡ true → cond b x y ≡ x
first b x y h = rw h refl

other : {X : Type 0} (b : Bool) (x y : X) → b ≡ false → cond b x y ≡ y
other b x y h = rw h refl

-- which of the schemas it is, by the number of its tables
count : Schema → ℕ
count s = length s.tables

other_count : (m n : ℕ) (a b : Schema) → count a ≡ m → count b ≡ n → (m ≡ n → ⊥) → a ≡ b → ⊥
other_count m n a b p q differ same = differ (sym p ∙ (ap count same ∙ q))

whole_count : count whole_schema ≡ 4
unfolding count
whole_count = refl

store_count : count store_schema ≡ 3
unfolding count
store_count = refl

both_count : count both_schema ≡ 2
unfolding count
both_count = refl

entry_count : count entry_schema ≡ 1
unfolding count
entry_count = refl

none_count : count no_schema ≡ 0
unfolding count
none_count = refl

-- a schema that is one of the five isn't another of them
is_not : (schema s other : Schema) (m n : ℕ) → schema ≡ s → count s ≡ m → count other ≡ n → (m ≡ n → ⊥)
    → same_schema schema other ≡ false
is_not schema s other m n is p q differ = not_same schema other
    (λ same. other_count m n s other p q differ (sym is ∙ same))

pub rows_in_whole : (schema : Schema) (trees : Trees) → schema ≡ whole_schema
    → stored_rows_in schema trees
    ≡ Some (record { entries = trees 0; cells = trees 1; forms = trees 4; cells2 = trees 5 })
rows_in_whole schema trees is = first (same_schema schema whole_schema) _ _ (schema_itself _ _ is)

pub rows_in_store : (schema : Schema) (trees : Trees) → schema ≡ store_schema
    → stored_rows_in schema trees ≡ Some (record { entries = trees 0; cells = trees 1; forms = trees 4; cells2 = [] })
rows_in_store schema trees is =
    other (same_schema schema whole_schema) _ _
    (is_not schema store_schema whole_schema 3 4 is store_count whole_count (λ e. omega (arith, e)))
    ∙ first (same_schema schema store_schema) _ _ (schema_itself _ _ is)

pub rows_in_both : (schema : Schema) (trees : Trees) → schema ≡ both_schema
    → stored_rows_in schema trees ≡ Some (record { entries = trees 0; cells = trees 1; forms = []; cells2 = [] })
rows_in_both schema trees is =
    other (same_schema schema whole_schema) _ _
    (is_not schema both_schema whole_schema 2 4 is both_count whole_count (λ e. omega (arith, e)))
    ∙ (other (same_schema schema store_schema) _ _
    (is_not schema both_schema store_schema 2 3 is both_count store_count (λ e. omega (arith, e)))
    ∙ first (same_schema schema both_schema) _ _ (schema_itself _ _ is))

pub rows_in_entry : (schema : Schema) (trees : Trees) → schema ≡ entry_schema
    → stored_rows_in schema trees ≡ Some (record { entries = trees 0; cells = []; forms = []; cells2 = [] })
rows_in_entry schema trees is =
    other (same_schema schema whole_schema) _ _
    (is_not schema entry_schema whole_schema 1 4 is entry_count whole_count (λ e. omega (arith, e)))
    ∙ (other (same_schema schema store_schema) _ _
    (is_not schema entry_schema store_schema 1 3 is entry_count store_count (λ e. omega (arith, e)))
    ∙ (other (same_schema schema both_schema) _ _
    (is_not schema entry_schema both_schema 1 2 is entry_count both_count (λ e. omega (arith, e)))
    ∙ first (same_schema schema entry_schema) _ _ (schema_itself _ _ is)))

pub rows_in_none : (schema : Schema) (trees : Trees) → schema ≡ no_schema
    → stored_rows_in schema trees ≡ Some (record { entries = []; cells = []; forms = []; cells2 = [] })
rows_in_none schema trees is =
    other (same_schema schema whole_schema) _ _
    (is_not schema no_schema whole_schema 0 4 is none_count whole_count (λ e. omega (arith, e)))
    ∙ (other (same_schema schema store_schema) _ _
    (is_not schema no_schema store_schema 0 3 is none_count store_count (λ e. omega (arith, e)))
    ∙ (other (same_schema schema both_schema) _ _
    (is_not schema no_schema both_schema 0 2 is none_count both_count (λ e. omega (arith, e)))
    ∙ (other (same_schema schema entry_schema) _ _
    (is_not schema no_schema entry_schema 0 1 is none_count entry_count (λ e. omega (arith, e)))
    ∙ first (same_schema schema no_schema) _ _ (schema_itself _ _ is))))

-- ---- what a store with all four tables tells

abbrev pub whole_rows : Trees → StoredRows
whole_rows trees = record { entries = trees 0; cells = trees 1; forms = trees 4; cells2 = trees 5 }

pub told_whole : (schema : Schema) (trees : Trees) → schema ≡ whole_schema
    → told_in_trees schema trees ≡ told_in_rows (whole_rows trees)
told_whole schema trees is = ap (option_and_then told_in_rows) (rows_in_whole schema trees is)

-- what is told is told by one of the two forms
pub told_one : (rows : StoredRows) (t : KeptTables) → told_in_rows rows ≡ Some t
    → (told_as form_1 rows.entries rows.cells ≡ Some t) ⊎ (told_as form_2 rows.entries rows.cells2 ≡ Some t)
told_one rows t told = go (is_first rows) (is_second rows) told
  where
    go : (a b : Bool) → cond a (told_as form_1 rows.entries rows.cells)
        (cond b (told_as form_2 rows.entries rows.cells2) None) ≡ Some t
        → (told_as form_1 rows.entries rows.cells ≡ Some t)
        ⊎ (told_as form_2 rows.entries rows.cells2 ≡ Some t)
    go true b h = inl h
    go false true h = inr h
    go false false h = absurd (cc)
