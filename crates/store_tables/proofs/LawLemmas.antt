-- Stores with the same entries and cells tell the same in both forms.
use Rattle.std.proofs.Common.{◌≡◌, ◌&&◌, ℕ, ℤ, pos, Bool, true, List, [], ◌∷◌, ◌++◌, map, cond, Option, None, Some, refl, sym, ap, ap₂, ◌∙◌}
use Rattle.std.specs.FinMap.{from_entries}
use Rattle.std.specs.List.{list_all}
use Rattle.std.specs.Ordering.{is_lt}
use Rattle.std.specs.Cmp.Lexicographic.{slice_cmp}
use Rattle.std.specs.Ordering.{nat_cmp}
use Rattle.sqlite_value.specs.declared.value.Value.TheVariants.{Int}
use Rattle.sqlite_value.specs.Order.{Row, column, value_cmp}
use Rattle.sqlite_rules.specs.Edit.{id_in}
use Rattle.sqlite_trees.specs.Tree.{rowid}
use Rattle.lei_values.specs.KeptTables.{KeptTables, cell_content, cell_place}
use Rattle.lei_values.specs.declared.cell.KeptCell.{KeptCell}
use Rattle.store_statements.specs.Names.{AreNameParts, lei_of, rest_of}
use Rattle.store_tables.specs.Forms.{first_store, second_store}
use Rattle.store_tables.specs.Same.{same_row}
use Rattle.store_tables.specs.Stored.{CellForm, cell_fits, cell_in_row, entry_of, form_1, form_2, is_cell, is_entry, stored_cell}
use Rattle.store_tables.specs.Told.{place_and_content, rise, told_as, told_in_rows}
use Rattle.store_tables.proofs.CellWriting.{cell_again}
use Rattle.store_tables.proofs.NameLemmas.{parts_again}
use Rattle.store_tables.proofs.RowLemmas.{told_first, told_second}
use Rattle.store_tables.proofs.SameLemmas.{row_itself}

-- ---- a name has one pair of parts

pub split_once : (name lei rest : List ℕ) → AreNameParts lei rest → lei ++ rest ≡ name
    → (lei ≡ lei_of name) × (rest ≡ rest_of name)
split_once name lei rest are is =
    let it = parts_again lei rest are in (sym it.0 ∙ ap lei_of is, sym it.1 ∙ ap rest_of is)

-- ---- the same cells in both forms

row_again : (id : ℤ) (c : KeptCell) (o : Option (List ℕ))
    → (cell_in_row (stored_cell id (record c { row = o }))).row ≡ o
row_again id c None = refl
row_again id c (Some b) = refl

first_again : (id : ℤ) (c : KeptCell) → cell_in_row (stored_cell id c) ≡ c
first_again id c = λ i. record c { row = row_again id c c.row i }

-- a form whose rows say which cell they have
record Says (form : CellForm) : Type 0 where
  pub ids : (id : ℤ) (c : KeptCell) → rowid (form.stored id c) ≡ Int id
  pub again : (id : ℤ) (c : KeptCell) → form.read (form.stored id c) ≡ c

says_1 : Says form_1
says_1 = record { ids = λ id c. refl; again = first_again }

says_2 : Says form_2
says_2 = record { ids = λ id c. refl; again = cell_again }

module _ (form : CellForm) (says : Says form) where
  abbrev rows_of : List (ℤ × KeptCell) → List Row
  rows_of cells = map (λ c. form.stored c.0 c.1) cells

  is_of : (id : ℤ) (c : KeptCell) → is_cell form (form.stored id c) ≡ cell_fits c
  is_of id c =
      let again = says.again id c in
      let same : id_in (column (form.stored id c) 0) ≡ id = ap id_in (says.ids id c) in
      let here = row_itself (form.stored id c) (form.stored id c) refl in
      (λ i. same_row (form.stored id c) (form.stored (same i) (again i)) && cell_fits (again i))
      ∙ ap (λ b. b && cell_fits c) here

  abbrev below : ℤ → List (ℤ × KeptCell) → Bool
  below id cells = list_all (λ c. is_lt (value_cmp (Int id) (Int c.0))) cells

  later_of : (id : ℤ) (c : KeptCell) (cells : List (ℤ × KeptCell))
      → list_all (λ later. is_lt (value_cmp (rowid (form.stored id c)) (rowid later))) (rows_of cells)
      ≡ below id cells
  later_of id c [] = refl
  later_of id c (d ∷ cells) =
      ap₂ ◌&&◌ (λ i. is_lt (value_cmp (says.ids id c i) (says.ids d.0 d.1 i))) (later_of id c cells)

  abbrev ids_rise : List (ℤ × KeptCell) → Bool
  ids_rise [] = true
  ids_rise (c ∷ cells) = below c.0 cells && ids_rise cells

  rise_of : (cells : List (ℤ × KeptCell)) → rise (rows_of cells) ≡ ids_rise cells
  rise_of [] = refl
  rise_of (c ∷ cells) = ap₂ ◌&&◌ (later_of c.0 c.1 cells) (rise_of cells)

  all_of : (cells : List (ℤ × KeptCell))
      → list_all (is_cell form) (rows_of cells) ≡ list_all (λ c. cell_fits c.1) cells
  all_of [] = refl
  all_of (c ∷ cells) = ap₂ ◌&&◌ (is_of c.0 c.1) (all_of cells)

  placed_of : (cells : List (ℤ × KeptCell))
      → map (place_and_content form) (rows_of cells) ≡ map (λ c. (cell_place c.1, cell_content c.1)) cells
  placed_of [] = refl
  placed_of (c ∷ cells) = ap₂ ◌∷◌ (λ i. (cell_place (says.again c.0 c.1 i), cell_content (says.again c.0 c.1 i)))
      (placed_of cells)

  -- what is told depends on the cells alone
  abbrev told_cells : List Row → List (ℤ × KeptCell) → Option KeptTables
  told_cells entries cells =
      cond ((rise entries && list_all is_entry entries) &&
      (ids_rise cells && list_all (λ c. cell_fits c.1) cells)) (Some (record {
        entries = map entry_of entries;
        cells = from_entries {R = slice_cmp nat_cmp} (map (λ c. (cell_place c.1, cell_content c.1)) cells);
      })) None

  told_is : (entries : List Row) (cells : List (ℤ × KeptCell))
      → told_as form entries (rows_of cells) ≡ told_cells entries cells
  told_is entries cells = λ i.
      cond ((rise entries && list_all is_entry entries) && (rise_of cells i && all_of cells i))
      (Some (record { entries = map entry_of entries; cells = from_entries (placed_of cells i) })) None

pub both_forms : (entries : List Row) (cells : List (ℤ × KeptCell))
    → told_in_rows (first_store entries cells) ≡ told_in_rows (second_store entries cells)
both_forms entries cells =
    told_first (first_store entries cells) refl refl
    ∙ (told_is form_1 says_1 entries cells
    ∙ (sym (told_is form_2 says_2 entries cells)
    ∙ sym (told_second (second_store entries cells)
    (row_itself (Int (pos 1) ∷ Int (pos 2) ∷ []) (Int (pos 1) ∷ Int (pos 2) ∷ []) refl) refl)))
