-- Tables that are kept stay so after a batch.
use Rattle.std.specs.Prelude.{◌≡◌, ◌<◌, ◌≤◌, ◌+◌, ◌-◌, ◌&&◌, nat_le, nat_lt, filter, ℕ, List, [], ◌∷◌, ◌++◌, length, slice_get, Bool, true, false, cond, Option, Some, IfSome}
use Rattle.std.proofs.lemmas.Cmp.{nat_list_cmp_total}
use Rattle.std.specs.Cmp.Lexicographic.{slice_cmp}
use Rattle.std.specs.FinMap.{empty, get, get-empty, get-insert}
use Rattle.std.specs.List.{AllByRecursion}
use Rattle.std.specs.Ordering.{eq_by_cmp, nat_cmp}
use Rattle.std.proofs.Common.{refl, sym, ap, subst, ◌∙◌, arith}
use Rattle.std.proofs.lemmas.List.Sums.{fold-append}
use Rattle.lei_values.specs.declared.entry.KeptEntry.{KeptEntry}
use Rattle.lei_values.specs.declared.batch.Batch.{Batch}
use Rattle.lei_values.specs.declared.cell.KeptCell.{KeptCell}
use Rattle.lei_values.specs.KeptTables.{AreKept, AreTouched, CellContent, CellsByPlace, IsBatch, IsCellOf, IsEntryNumber, RiseFrom, cell_content, cell_place, entry_number, last_number, put_cell, put_cells}
use Rattle.memory_devices.specs.Memory.{AreOfEntries, MayBeKept, SureKeeperState, tables_of, with_kept}

-- ---- entries

-- the number of the last entry, starting from the front
abbrev last_from : ℕ → List KeptEntry → ℕ
last_from number [] = number
last_from number (e ∷ list) = last_from e.seq list

last_is : (e : KeptEntry) (list : List KeptEntry) → entry_number (slice_get (e ∷ list) (length list)) ≡ last_from e.seq list
last_is e [] = refl
last_is e (next ∷ list) = last_is next list

last_of : (list : List KeptEntry) → entry_number (slice_get list (length list - 1)) ≡ last_from 0 list
last_of [] = refl
last_of (e ∷ list) =
    let before : length (e ∷ list) - 1 ≡ length list = omega arith in
    ap (λ n. entry_number (slice_get (e ∷ list) n)) before ∙ last_is e list

rise_on : (number : ℕ) (list : List KeptEntry) (e : KeptEntry) → RiseFrom number list → last_from number list < e.seq → RiseFrom number (list ++ e ∷ [])
rise_on number [] e rise more = (more, tt)
rise_on number (first ∷ list) e rise more = (rise.0, rise_on first.seq list e rise.1 more)

-- the entries whose number is greater than the first number and at most the second
abbrev pub between : ℕ → ℕ → List KeptEntry → List KeptEntry
between after upto list = filter (λ e. nat_lt after e.seq && nat_le e.seq upto) list

-- ---- cells

touched_by : (b : Bool) (new : CellContent) (old : Option CellContent) (content : CellContent) → cond b (Some new) old ≡ Some content
    → IsEntryNumber new.touched → (old ≡ Some content → IsEntryNumber content.touched) → IsEntryNumber content.touched
touched_by true new old content is low kept = subst (λ o. IfSome o (λ c. IsEntryNumber c.touched)) is low
touched_by false new old content is low kept = kept is

put_touched : (cells : CellsByPlace) (cell : KeptCell) → AreTouched cells → IsEntryNumber cell.touched → AreTouched (put_cell cells cell)
put_touched cells cell are low place content is =
    touched_by (eq_by_cmp (slice_cmp nat_cmp) place (cell_place cell)) (cell_content cell) (get cells place) content
    (sym (get-insert nat_list_cmp_total cells (cell_place cell) (cell_content cell) place) ∙ is) low (are place content)

all_touched : (number : ℕ) (cells : CellsByPlace) (list : List KeptCell) → IsEntryNumber number → AllByRecursion (IsCellOf number) list → AreTouched cells → AreTouched (put_cells cells list)
all_touched number cells [] is all are = are
all_touched number cells (cell ∷ list) is all are =
    all_touched number (put_cell cells cell) list is all.1 (put_touched cells cell are (subst IsEntryNumber (sym all.0.0) is))

came_touched : (cells : CellsByPlace) (list : List KeptCell) → AreOfEntries list → AreTouched cells → AreTouched (put_cells cells list)
came_touched cells [] all are = are
came_touched cells (cell ∷ list) all are = came_touched (put_cell cells cell) list all.1 (put_touched cells cell are all.0)

none_touched : AreTouched empty
none_touched place content is = let none = sym (get-empty (slice_cmp nat_cmp) place) ∙ is in cc

-- ---- tables

pub nothing-kept : AreKept (tables_of (record { entries = []; cells = [] }))
nothing-kept = record { entries = tt; cells = none_touched }

pub may-kept : (entries : List KeptEntry) (cells : List KeptCell) → MayBeKept entries cells → AreKept (tables_of (record { entries = entries; cells = cells }))
may-kept entries cells may = record { entries = may.0; cells = came_touched empty cells may.1 none_touched }

pub tables-with : (keeper : SureKeeperState) (batch : Batch) → put_cells (put_cells empty keeper.cells) batch.cells ≡ put_cells empty (keeper.cells ++ batch.cells)
tables-with keeper batch = sym (fold-append put_cell empty keeper.cells batch.cells)

pub kept-with : (keeper : SureKeeperState) (batch : Batch) → AreKept (tables_of keeper) → IsBatch batch → batch.entry.seq ≡ last_number (tables_of keeper) + 1
    → AreKept (tables_of (with_kept batch keeper))
kept-with keeper batch kept is next =
    let low : 1 ≤ batch.entry.seq = omega (arith, next) in
    let number : IsEntryNumber batch.entry.seq = (low, omega (arith, is.number)) in
    let behind : last_from 0 keeper.entries < batch.entry.seq = omega (arith, next, last_of keeper.entries) in
    record {
      entries = rise_on 0 keeper.entries batch.entry kept.entries behind;
      cells = subst AreTouched (tables-with keeper batch) (all_touched batch.entry.seq (put_cells empty keeper.cells) batch.cells number is.cells kept.cells);
    }
