-- The answer of the query on cells of form 2.
use Rattle.std.proofs.Common.{◌≡◌, ℕ, pos, Bool, true, false, cond, List, [], ◌∷◌, map, filter, Less, Equal, refl, sym, ap, ap₂, subst, ◌∙◌}
use Rattle.std.specs.List.{AllByRecursion}
use Rattle.std.specs.Ordering.{nat_cmp, ordering_then}
use Rattle.std.specs.Cmp.Lexicographic.{slice_cmp}
use Rattle.std.specs.FinMap.{entries, from_entries}
use Rattle.std.proofs.lemmas.List.Sorted.{IsPermutation-map, IsPermutation-sym, IsPermutation-trans}
use Rattle.sqlite_value.specs.declared.value.Value.TheVariants.{Int, Text}
use Rattle.sqlite_value.specs.Order.{Row, column, value_cmp}
use Rattle.sqlite_value.proofs.OrderLemmas.{then-Equal, value_cmp-Int, value_cmp-Text}
use Rattle.sqlite_trees.specs.Tree.{Trees, IsAscending}
use Rattle.sqlite_trees.proofs.ListLemmas.{IsPermutation-filter, all-filter, ascending-filter, ascending-map}
use Rattle.sqlite_rules.specs.Edit.{id_in}
use Rattle.sqlite_sql.specs.Query.{IsAnswer, Output, output_cmp}
use Rattle.sqlite_sql.specs.Program.{overlay}
use Rattle.lei_values.specs.KeptTables.{cell_at}
use Rattle.store_statements.specs.Commands.{cells_query, no_limit, within}
use Rattle.store_statements.specs.Rows.{cell_row}
use Rattle.store_statements.specs.Names.{lei_of, rest_of}
use Rattle.store_tables.specs.Stored.{cell2_of, form_2, stored_cell2}
use Rattle.store_tables.specs.Told.{place_and_content}
use Rattle.store_tables.proofs.EntryReading.{between, cell_number, in_range, range}
use Rattle.store_tables.proofs.NameLemmas.{parts_order}
use Rattle.store_tables.proofs.PlaceLemmas.{Apart, before, in_order, pos_cmp}
use Rattle.store_tables.proofs.QueryLemmas.{answer_is, passes, shown}
use Rattle.store_tables.proofs.RowLemmas.{AreCells, IsCell}

module _ (after upto : ℕ) where
  abbrev cell_passes : Row → Bool
  cell_passes = passes 5 (within 4) cells_query.project cells_query.order no_limit (range after upto)

  abbrev cell_shown : Row → Output
  cell_shown = shown 5 (within 4) cells_query.project cells_query.order no_limit (range after upto)

  passes_is : (r : Row) → IsCell form_2 r → cell_passes r ≡ between after upto (cell2_of r).touched
  passes_is r is = subst (λ x. cell_passes x ≡ between after upto (cell2_of r).touched) (sym is.0)
      (in_range after upto (cell2_of r).touched (cell_number (cell2_of r) is.1).1)

  shows_is : (r : Row) → IsCell form_2 r → (cell_shown r).1 ≡ cell_row (cell2_of r)
  shows_is r is = subst (λ x. (cell_shown x).1 ≡ cell_row (cell2_of r)) (sym is.0) refl

  keys_rise : (m n : ℕ) (s t : List ℕ) → slice_cmp nat_cmp (m ∷ s) (n ∷ t) ≡ Less
      → ordering_then (value_cmp (Int (pos m)) (Int (pos n)))
      (ordering_then (value_cmp (Text (lei_of s)) (Text (lei_of t)))
      (ordering_then (value_cmp (Text (rest_of s)) (Text (rest_of t))) Equal)) ≡ Less
  keys_rise m n s t below =
      ap₂ ordering_then (value_cmp-Int (pos m) (pos n) ∙ pos_cmp m n)
      (ap₂ ordering_then (value_cmp-Text (lei_of s) (lei_of t))
      (then-Equal (value_cmp (Text (rest_of s)) (Text (rest_of t))) ∙ value_cmp-Text (rest_of s) (rest_of t)))
      ∙ (parts_order m n s t ∙ below)

  -- in the order of kind and name
  rises : (a b : Row) → IsCell form_2 a → IsCell form_2 b → before form_2 a b
      → output_cmp cells_query (cell_shown a) (cell_shown b) ≡ Less
  rises a b p q below =
      subst (λ x. output_cmp cells_query (cell_shown x) (cell_shown b) ≡ Less) (sym p.0)
      (subst (λ y. output_cmp cells_query (cell_shown (stored_cell2 (id_in (column a 0)) (cell2_of a)))
      (cell_shown y) ≡ Less) (sym q.0)
      (keys_rise (cell2_of a).kind (cell2_of b).kind (cell2_of a).name (cell2_of b).name below))

  each_rises : (a : Row) (rows : List Row) → IsCell form_2 a → AllByRecursion (IsCell form_2) rows
      → AllByRecursion (before form_2 a) rows
      → AllByRecursion (λ b. output_cmp cells_query (cell_shown a) (cell_shown b) ≡ Less) rows
  each_rises a [] is each below = tt
  each_rises a (b ∷ rows) is each below = (rises a b is each.0 below.0, each_rises a rows is each.1 below.1)

  all_rise : (rows : List Row) → AllByRecursion (IsCell form_2) rows → IsAscending (before form_2) rows
      → IsAscending (λ a b. output_cmp cells_query (cell_shown a) (cell_shown b) ≡ Less) rows
  all_rise [] each up = tt
  all_rise (r ∷ rows) each up = (each_rises r rows each.0 each.1 up.0, all_rise rows each.1 up.1)

  shown_rows : (rows : List Row) → AllByRecursion (IsCell form_2) rows
      → map (λ o. o.1) (map cell_shown (filter cell_passes rows))
      ≡ map cell_row (filter (λ c. between after upto c.touched) (map cell_at (map (place_and_content form_2) rows)))
  shown_rows [] all = refl
  shown_rows (r ∷ rows) all = go (cell_passes r) (passes_is r all.0) (shown_rows rows all.1)
    where
      go : (b : Bool) → b ≡ between after upto (cell2_of r).touched
          → map (λ (o : Output). o.1) (map cell_shown (filter cell_passes rows))
          ≡ map cell_row (filter (λ c. between after upto c.touched) (map cell_at (map (place_and_content form_2) rows)))
          → map (λ (o : Output). o.1)
          (map cell_shown (cond b (r ∷ filter cell_passes rows) (filter cell_passes rows)))
          ≡ map cell_row (cond (between after upto (cell2_of r).touched)
          (cell2_of r ∷ filter (λ c. between after upto c.touched) (map cell_at (map (place_and_content form_2) rows)))
          (filter (λ c. between after upto c.touched) (map cell_at (map (place_and_content form_2) rows))))
      go true is more = rw (← is) (ap₂ ◌∷◌ (shows_is r all.0) more)
      go false is more = rw (← is) more

  pub cells_answer : (db : Trees) (rows : List Row) → AreCells form_2 (db 5) → Apart form_2 (db 5)
      → IsAnswer cells_query (overlay db []) (range after upto) rows
      → rows ≡ map cell_row (filter (λ c. between after upto c.touched)
      (map cell_at (entries (from_entries {R = slice_cmp nat_cmp} (map (place_and_content form_2) (db 5))))))
  cells_answer db rows are apart a =
      let o = in_order form_2 (db 5) apart are.each in
      let all = map cell_shown (filter cell_passes o.all) in
      let each = all-filter (IsCell form_2) cell_passes o.all o.each in
      let up = ascending-map (λ x y. output_cmp cells_query x y ≡ Less) cell_shown _
      (all_rise (filter cell_passes o.all) each (ascending-filter (before form_2) cell_passes o.all o.up)) in
      let same = IsPermutation-map cell_shown _ _
      (IsPermutation-filter cell_passes o.all (db 5) (IsPermutation-sym _ _ o.same)) in
      answer_is 5 (within 4) cells_query.project cells_query.order no_limit (range after upto) db rows a all
      up same IsPermutation-trans
      ∙ (shown_rows o.all o.each
      ∙ ap (λ es. map cell_row (filter (λ c. between after upto c.touched) (map cell_at es))) (sym o.are))
