-- Cells in a map by their places, as a finite map: the result of an insertion, and the cells in order.
use Rattle.std.specs.Prelude.{◌≡◌, ℕ, ◌&&◌, nat_le, nat_lt, Bool, true, false, cond, List, [], ◌∷◌, ◌++◌, map, Option, Some, Result, Ok, Err, IfOk}
use Rattle.std.specs.BTreeMap.{insert_entry}
use Rattle.std.specs.Borrow.{Bor}
use Rattle.std.specs.Global.{Global}
use Rattle.std.specs.declared.vec.Vec.{Vec}
use Rattle.std.proofs.lemmas.Cmp.{nat_list_cmp_total}
use Rattle.std.specs.Cmp.Lexicographic.{slice_cmp}
use Rattle.std.specs.FinMap.{empty, entries, from_entries, from_sorted, entries-from_sorted, insert, get-from_entries, get-from_sorted, get-insert, same_map}
use Rattle.std.specs.FinMap.Entries.{below_all, find, is_sorted}
use Rattle.std.specs.List.{AllByRecursion}
use Rattle.std.specs.List.Sorted.{IsStrictlySortedBy}
use Rattle.std.specs.Map.{keys_of}
use Rattle.std.specs.Ordering.{eq_by_cmp, is_eq, is_lt, match_ordering, nat_cmp}
use Rattle.std.specs.declared.cmp.Ordering.TheVariants.{Less, Equal, Greater}
use Rattle.std.proofs.Common.{refl, sym, ap, subst, ◌∙◌, append_assoc, T}
use mathlib.Core.Bool.{true≢false}
use Rattle.lei_values.specs.declared.cell.KeptCell.{KeptCell}
use Rattle.lei_values.proofs.Places.{itself, same_places, tied}
use Rattle.memory_devices.specs.CellLists.{between_of, cells_by_place, content_at}
use Rattle.lei_values.specs.KeptTables.{CellContent, CellPlace, CellsByPlace, cell_at, cell_content}

abbrev pub Listed : Type 0
Listed = List (CellPlace × Bor KeptCell)

-- ---- an insertion

swapped : (a b : Bool) (x y z : Option CellContent) → (a ≡ true → b ≡ true → x ≡ y) → cond a x (cond b y z) ≡ cond b y (cond a x z)
swapped true true x y z same = same refl refl
swapped true false x y z same = refl
swapped false b x y z same = refl

over : (a : Bool) (x y z : Option CellContent) → cond a x z ≡ cond a x (cond a y z)
over true x y z = refl
over false x y z = refl

inserted : (k : CellPlace) (cell : Bor KeptCell) (list : Listed) (q : CellPlace)
    → find (slice_cmp nat_cmp) q (map content_at (insert_entry (slice_cmp nat_cmp) list k cell))
    ≡ cond (eq_by_cmp (slice_cmp nat_cmp) q k) (Some (cell_content cell.now)) (find (slice_cmp nat_cmp) q (map content_at list))
inserted k cell [] q = refl
inserted k cell (e ∷ list) q =
    let at_k = eq_by_cmp (slice_cmp nat_cmp) q k in
    let at_e = eq_by_cmp (slice_cmp nat_cmp) q e.0 in
    let rest = find (slice_cmp nat_cmp) q (map content_at list) in
    let own = cell_content e.1.now in
    elim (slice_cmp nat_cmp k e.0) as (λ r. slice_cmp nat_cmp k e.0 ≡ r
    → find (slice_cmp nat_cmp) q (map content_at (match_ordering r ((k, cell) ∷ e ∷ list) ((e.0, cell) ∷ list) (e ∷ insert_entry (slice_cmp nat_cmp) list k cell)))
    ≡ cond at_k (Some (cell_content cell.now)) (cond at_e (Some own) rest)) [
      | Less ↦ λ _. refl
      | Equal ↦ λ t.
          let tests : at_k ≡ at_e = ap (eq_by_cmp (slice_cmp nat_cmp) q) (same_places k e.0 t) in
          over at_e (Some (cell_content cell.now)) (Some own) rest
          ∙ ap (λ b. cond b (Some (cell_content cell.now)) (cond at_e (Some own) rest)) (sym tests)
      | Greater ↦ λ t.
          let apart : at_e ≡ true → at_k ≡ true → Some own ≡ Some (cell_content cell.now) = λ p r.
          let same : k ≡ e.0 = sym (tied q k r) ∙ tied q e.0 p in
          let wrong : true ≡ false = sym (itself k) ∙ (ap (λ place. is_eq (slice_cmp nat_cmp k place)) same ∙ ap is_eq t) in
          absurd (true≢false wrong) in
          ap (cond at_e (Some own)) (inserted k cell list q)
          ∙ swapped at_e at_k (Some own) (Some (cell_content cell.now)) rest apart
    ] refl

pub cells_by_place-insert : (old new : Listed) (k : CellPlace) (cell : Bor KeptCell) → new ≡ insert_entry (slice_cmp nat_cmp) old k cell
    → cells_by_place new ≡ insert (cells_by_place old) k (cell_content cell.now)
unfolding cells_by_place
cells_by_place-insert old new k cell made = same_map nat_list_cmp_total same_places (cells_by_place new) (insert (cells_by_place old) k (cell_content cell.now))
    (λ q. get-from_entries nat_list_cmp_total (map content_at new) q
    ∙ (ap (λ list. find (slice_cmp nat_cmp) q (map content_at list)) made
    ∙ (inserted k cell old q
    ∙ (ap (cond (eq_by_cmp (slice_cmp nat_cmp) q k) (Some (cell_content cell.now))) (sym (get-from_entries nat_list_cmp_total (map content_at old) q))
    ∙ sym (get-insert nat_list_cmp_total (cells_by_place old) k (cell_content cell.now) q)))))

-- ---- the cells in order

both : (a b : Bool) → T a → T b → T (a && b)
both true b p q = q
both false b p q = absurd p

below : (k : CellPlace) (list : Listed) → AllByRecursion (λ y. slice_cmp nat_cmp k y ≡ Less) (keys_of list) → T (below_all (slice_cmp nat_cmp) k (map content_at list))
below k [] all = tt
below k (e ∷ list) all = both _ _ (subst (λ r. T (is_lt r)) (sym all.0) tt) (below k list all.1)

sorted_places : (list : Listed) → IsStrictlySortedBy (slice_cmp nat_cmp) (keys_of list) → T (is_sorted (slice_cmp nat_cmp) (map content_at list))
unfolding IsStrictlySortedBy
sorted_places [] sorted = tt
sorted_places (e ∷ list) sorted = both _ _ (below e.0 list sorted.0) (sorted_places list sorted.1)

-- cells that rise are the entries of their map
pub entries-cells_in : (list : Listed) → IsStrictlySortedBy (slice_cmp nat_cmp) (keys_of list) → entries (cells_by_place list) ≡ map content_at list
unfolding cells_by_place
entries-cells_in list sorted =
    let es = map content_at list in
    let rises = sorted_places list sorted in
    let same : from_entries es ≡ from_sorted {R = slice_cmp nat_cmp} es = same_map nat_list_cmp_total same_places (from_entries es) (from_sorted es)
    (λ q. get-from_entries nat_list_cmp_total es q ∙ sym (get-from_sorted (slice_cmp nat_cmp) es q rises)) in
    ap entries same ∙ entries-from_sorted (slice_cmp nat_cmp) es rises

between-entries : (after upto : ℕ) (list : Listed) (cells : CellsByPlace) (told : List KeptCell) → IsStrictlySortedBy (slice_cmp nat_cmp) (keys_of list)
    → cells_by_place list ≡ cells → told ≡ between_of after upto (map content_at list) → told ≡ between_of after upto (entries cells)
between-entries after upto list cells told sorted is whole =
    whole ∙ (ap (between_of after upto) (sym (entries-cells_in list sorted)) ∙ ap (λ c. between_of after upto (entries c)) is)

-- a cell that is within was told
pub told_more : (after upto : ℕ) (list : List KeptCell) (one : KeptCell) (cell : CellPlace × CellContent) (rest : List (CellPlace × CellContent))
    → one ≡ cell_at cell → nat_lt after (cell_at cell).touched && nat_le (cell_at cell).touched upto ≡ true
    → (list ++ one ∷ []) ++ between_of after upto rest ≡ list ++ between_of after upto (cell ∷ rest)
told_more after upto list one cell rest is passes =
    append_assoc list (one ∷ []) (between_of after upto rest)
    ∙ (ap (λ c. list ++ c ∷ between_of after upto rest) is
    ∙ ap (λ b. list ++ cond b (cell_at cell ∷ between_of after upto rest) (between_of after upto rest)) (sym passes))

pub cells_by_place-none : (list : Listed) → list ≡ [] → cells_by_place list ≡ empty
unfolding cells_by_place
cells_by_place-none list none = ap cells_by_place none

pub all_between : {E : Type 0} (after upto : ℕ) (list : Listed) (cells : CellsByPlace) (result : Result (Vec KeptCell Global) E) → IsStrictlySortedBy (slice_cmp nat_cmp) (keys_of list)
    → cells_by_place list ≡ cells → IfOk result (λ told. told.items ≡ between_of after upto (map content_at list)) → IfOk result (λ told. told.items ≡ between_of after upto (entries cells))
all_between after upto list cells (Ok told) sorted is whole = between-entries after upto list cells told.items sorted is whole
all_between after upto list cells (Err fault) sorted is whole = tt
