-- The answer of the query on entries.
use Rattle.std.proofs.Common.{◌≡◌, ◌≤◌, ◌&&◌, ℕ, pos, Bool, true, false, cond, min, List, [], ◌∷◌, map, filter, nat_lt, nat_le, Less, refl, sym, ap₂, subst, ◌∙◌, arith}
use Rattle.std.specs.List.{AllByRecursion}
use Rattle.std.proofs.lemmas.Bool.Decides.{nat_tests}
use Rattle.std.proofs.lemmas.List.Sorted.{IsPermutation-refl, IsPermutation-trans}
use Rattle.sqlite_value.specs.declared.value.Value.TheVariants.{Int}
use Rattle.sqlite_value.specs.Order.{Row, value_cmp}
use Rattle.sqlite_value.proofs.OrderLemmas.{then-Equal}
use Rattle.sqlite_trees.specs.Tree.{Trees, rowid}
use Rattle.sqlite_trees.proofs.ListLemmas.{ascending-filter, ascending-map, ascending_weaker}
use Rattle.sqlite_value.specs.declared.keys.Collation.TheVariants.{Binary}
use Rattle.sqlite_sql.specs.declared.ops.BinaryOp.TheVariants.{Compare}
use Rattle.sqlite_sql.specs.declared.ops.CompareOp.TheVariants.{Gt, Le}
use Rattle.sqlite_sql.specs.Ops.{binary, is_true}
use Rattle.sqlite_sql.specs.Query.{IsAnswer, Output, output_cmp}
use Rattle.sqlite_sql.specs.Program.{overlay}
use Rattle.lei_values.specs.declared.entry.KeptEntry.{KeptEntry}
use Rattle.store_statements.specs.Commands.{entries_query, no_limit, within}
use Rattle.store_statements.specs.Rows.{entry_row}
use Rattle.lei_values.specs.declared.cell.KeptCell.{KeptCell}
use Rattle.store_tables.specs.Stored.{cell_fits, entry_fits, entry_of, is_entry_number}
use Rattle.store_tables.proofs.QueryLemmas.{answer_is, passes, shown}
use Rattle.store_tables.proofs.RowLemmas.{AreEntries, IsEntry}
use Rattle.store_tables.proofs.SameLemmas.{left_of, right_of}
use Rattle.store_tables.proofs.ValueLemmas.{is_above, is_at_most, lower_bound, upper_bound}

abbrev pub range : ℕ → ℕ → Row
range after upto = Int (pos (min after 9223372036854775807)) ∷ Int (pos (min upto 9223372036854775807)) ∷ []

-- the number of an entry or a cell that fits
number_is : (n : ℕ) (rest : Bool) → (is_entry_number n && rest) ≡ true → (1 ≤ n) × (n ≤ 9223372036854775807)
number_is n rest fits =
    let low = left_of (nat_le 1 n) (nat_le n 9223372036854775807) (left_of (is_entry_number n) rest fits) in
    let high = right_of (nat_le 1 n) (nat_le n 9223372036854775807) (left_of (is_entry_number n) rest fits) in
    (grind (arith, nat_tests), grind (arith, nat_tests))

pub entry_number : (e : KeptEntry) → entry_fits e ≡ true → (1 ≤ e.seq) × (e.seq ≤ 9223372036854775807)
entry_number e fits = number_is e.seq _ fits

pub cell_number : (c : KeptCell) → cell_fits c ≡ true → (1 ≤ c.touched) × (c.touched ≤ 9223372036854775807)
cell_number c fits = number_is c.touched _ fits

abbrev pub between : ℕ → ℕ → ℕ → Bool
between after upto n = nat_lt after n && nat_le n upto

two_tests : (a b : Bool) → (a && (b && true)) ≡ (a && b)
two_tests true true = refl
two_tests true false = refl
two_tests false b = refl

-- a number passes if it is within the range
pub in_range : (after upto n : ℕ) → n ≤ 9223372036854775807
    → (is_true (binary (Compare Gt Binary) (Int (pos n)) (Int (pos (min after 9223372036854775807))))
    && (is_true (binary (Compare Le Binary) (Int (pos n)) (Int (pos (min upto 9223372036854775807)))) &&
    true)) ≡ between after upto n
in_range after upto n high =
    two_tests _ _ ∙ ap₂ ◌&&◌ (is_above n (min after 9223372036854775807) ∙ lower_bound after n high)
    (is_at_most n (min upto 9223372036854775807) ∙ upper_bound upto n high)

module _ (after upto : ℕ) where
  abbrev entry_passes : Row → Bool
  entry_passes = passes 0 (within 0) entries_query.project entries_query.order no_limit (range after upto)

  abbrev entry_shown : Row → Output
  entry_shown = shown 0 (within 0) entries_query.project entries_query.order no_limit (range after upto)

  passes_is : (r : Row) → IsEntry r → entry_passes r ≡ between after upto (entry_of r).seq
  passes_is r is = subst (λ x. entry_passes x ≡ between after upto (entry_of r).seq) (sym is.0)
      (in_range after upto (entry_of r).seq (entry_number (entry_of r) is.1).1)

  shows_is : (r : Row) → IsEntry r → (entry_shown r).1 ≡ entry_row (entry_of r)
  shows_is r is = subst (λ x. (entry_shown x).1 ≡ entry_row (entry_of r)) (sym is.0) refl

  -- in order of number
  rises : (a b : Row) → value_cmp (rowid a) (rowid b) ≡ Less
      → output_cmp entries_query (entry_shown a) (entry_shown b) ≡ Less
  rises a b below = then-Equal _ ∙ below

  shown_rows : (rows : List Row) → AllByRecursion IsEntry rows
      → map (λ o. o.1) (map entry_shown (filter entry_passes rows))
      ≡ map entry_row (filter (λ e. between after upto e.seq) (map entry_of rows))
  shown_rows [] all = refl
  shown_rows (r ∷ rows) all = go (entry_passes r) (passes_is r all.0) (shown_rows rows all.1)
    where
      go : (b : Bool) → b ≡ between after upto (entry_of r).seq
          → map (λ (o : Output). o.1) (map entry_shown (filter entry_passes rows))
          ≡ map entry_row (filter (λ e. between after upto e.seq) (map entry_of rows))
          → map (λ (o : Output). o.1)
          (map entry_shown (cond b (r ∷ filter entry_passes rows) (filter entry_passes rows)))
          ≡ map entry_row (cond (between after upto (entry_of r).seq)
          (entry_of r ∷ filter (λ e. between after upto e.seq) (map entry_of rows))
          (filter (λ e. between after upto e.seq) (map entry_of rows)))
      go true is more = rw (← is) (ap₂ ◌∷◌ (shows_is r all.0) more)
      go false is more = rw (← is) more

  pub entries_answer : (db : Trees) (rows : List Row) → AreEntries (db 0)
      → IsAnswer entries_query (overlay db []) (range after upto) rows
      → rows ≡ map entry_row (filter (λ e. between after upto e.seq) (map entry_of (db 0)))
  entries_answer db rows are a =
      let up = ascending-map (λ x y. output_cmp entries_query x y ≡ Less) entry_shown _
      (ascending_weaker _ (λ x y. output_cmp entries_query (entry_shown x) (entry_shown y) ≡ Less) rises _
      (ascending-filter _ entry_passes (db 0) are.rise)) in
      answer_is 0 (within 0) entries_query.project entries_query.order no_limit (range after upto) db rows a
      (map entry_shown (filter entry_passes (db 0))) up (IsPermutation-refl _) IsPermutation-trans
      ∙ shown_rows (db 0) are.each
