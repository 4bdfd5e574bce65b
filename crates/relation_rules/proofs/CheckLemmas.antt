-- Checks one after another, and their result over the cells of a table.
use Rattle.std.specs.Prelude.{◌≡◌, ℕ, List, [], ◌∷◌, ◌++◌, Bool, true, false, ◌&&◌, cond, Option, Some, None, is_some}
use Rattle.std.specs.Option.{option_map_or, option_or}
use Rattle.std.specs.Str.{bytes_eq}
use Rattle.std.proofs.Common.{refl, sym, ap, ◌∙◌}
use Rattle.lei_shapes.specs.declared.lists.ExceptionCategory.{ExceptionCategory}
use Rattle.lei_records.specs.Checks.{FailedCheck}
use Rattle.lei_records.specs.declared.check.Detail.{Detail}
use Rattle.lei_records.specs.declared.view.CellKey.{CellKey}
use Rattle.lei_records.specs.declared.view.Seen.{Seen}
use Rattle.lei_records.specs.Exceptions.{exception_category_in, subject_in}
use Rattle.lei_records.specs.Checks.{Finding, code_detail, fails_if, first_failing}
use Rattle.lei_records.specs.Relations.{end_in, is_active, kind_in, start_in}
use Rattle.lei_records.specs.Rows.{Row}
use Rattle.lei_records.specs.Tables.{HasActives, Table, active_of, cells_of, has_exception, record_of, relation_of, seen, seen_fact}
use Rattle.lei_records.proofs.PassLemmas.{first_failing-append}
use Rattle.authority_rules.specs.Taken.{unless_own}
use Rattle.authority_rules.proofs.PutLemmas.{other_than}
use Rattle.successor_rules.specs.declared.walks.Walked.{Walked}
use Rattle.lei_records.specs.Walks.{is_long, is_met}
use Rattle.relation_rules.specs.declared.checked.Checked.{Checked}
use Rattle.relation_rules.specs.Checks.{c30, c31, c32, c33, c34, c35, c36, c37, c38, c39, c40, c50, c51, c52, c53, exception_checks, has_own_exception, other_end, relation_checks}
use Rattle.relation_rules.specs.Checking.{check_active, check_category, check_end, check_exception, check_held, check_managed, check_other_end, check_parents, check_relation, check_start, check_subject, check_walked, check_withdrawal, checked_of, on_seen, unless_failed, walk_parents}
use Rattle.lei_records.specs.Parents.{is_direct_type, parent_category, parent_of, parent_type}
use Rattle.relation_rules.proofs.ActiveLemmas.{other_end-is}
use Rattle.relation_rules.proofs.ParentLemmas.{walk_parents-over_table}

-- ---- checks one after another

either : (first second : Option FailedCheck) → unless_failed first (checked_of second) ≡ checked_of (option_or first second)
either None second = refl
either (Some check) second = refl

-- the earlier checks followed by the later ones give the first that fails of all
pub chained : (before behind : List Finding) → unless_failed (first_failing before) (checked_of (first_failing behind)) ≡ checked_of (first_failing (before ++ behind))
chained before behind =
    either (first_failing before) (first_failing behind) ∙ ap checked_of (sym (first_failing-append before behind))

-- a cell that isn't missing
pub on_held : {X : Type 0} (cell : Option X) (key : CellKey) (next : Option X → Checked) → on_seen (seen cell) key next ≡ next cell
on_held None key next = refl
on_held (Some x) key next = refl

-- what a cell has except its own, and what is seen of it except its own
pub seen_other : (own : List ℕ) (found : Option (List ℕ)) → seen (other_than own found) ≡ unless_own own (seen found)
seen_other own None = refl
seen_other own (Some lei) =
    elim (bytes_eq lei own) as (λ b. seen (cond b None (Some lei)) ≡ cond b Seen.Empty (Seen.Held lei)) [ true ↦ refl | false ↦ refl ]

-- ---- C37 and the checks after it

abbrev walked_by : Bool → Bool → Walked
walked_by met long = cond met Walked.Meets (cond long Walked.Long Walked.Ends)

abbrev stands_line : Bool → Bool → Finding
stands_line active stands = fails_if (active && stands) 40 Detail.None

abbrev last_lines : Bool → Bool → Bool → Bool → Bool → List Finding
last_lines active direct met long stands =
    fails_if ((active && direct) && met) 38 Detail.None ∷ fails_if ((active && direct) && long) 39 Detail.None
    ∷ stands_line active stands ∷ []

-- the checks by their order are those that apply
by_order : (active direct : Bool) (other : Option (List ℕ)) (met long stands : Bool)
    → cond active
    (unless_failed (first_failing (fails_if (active && is_some other) 37 (code_detail other) ∷ []))
    (cond direct (check_walked 38 39 (walked_by met long) (checked_of (first_failing (stands_line active stands ∷ []))))
    (checked_of (first_failing (stands_line active stands ∷ []))))) Checked.Passes
    ≡ checked_of (first_failing (fails_if (active && is_some other) 37 (code_detail other) ∷ last_lines active direct met long stands))
by_order false direct other met long stands = refl
by_order true direct (Some end) met long stands = refl
by_order true false None met long stands = refl
by_order true true None true long stands = refl
by_order true true None false true stands = refl
by_order true true None false false stands = refl

fact_seen : (stands : Bool) (key : CellKey) (next : Bool → Checked) → on_seen (seen_fact stands) key (λ found. next (is_some found)) ≡ next stands
fact_seen true key next = refl
fact_seen false key next = refl

never_stands : (active : Bool) → Checked.Passes ≡ checked_of (first_failing (stands_line active false ∷ []))
never_stands true = refl
never_stands false = refl

category_by : (table : Table) (item : Row) (category : Option ExceptionCategory)
    → check_category (cells_of table) item category
    ≡ checked_of (first_failing (c40 (option_map_or (has_exception table (start_in item)) category false) item ∷ []))
category_by table item None = never_stands (is_active item)
category_by table item (Some category) =
    fact_seen (has_exception table (start_in item) category) (CellKey.Exc (start_in item) category) (λ stands. checked_of (first_failing (c40 stands item ∷ [])))

from_active : (table : Table) (item : Row) → HasActives table
    → check_active (cells_of table) item
    ≡ checked_of (first_failing (c37 (other_end table item) item ∷ c38 (parent_of table) item ∷ c39 (parent_of table) item
    ∷ c40 (has_own_exception table item) item ∷ []))
from_active table item actives =
    let cells = cells_of table in
    let met = is_met (parent_of table) (start_in item) (end_in item) in
    let long = is_long (parent_of table) (end_in item) in
    let active = is_active item in
    let walks : walk_parents cells (start_in item) (end_in item) ≡ walked_by met long = walk_parents-over_table table (start_in item) (end_in item) in
    let last = category_by table item (parent_category (kind_in item)) in
    let parents : check_parents cells item
    ≡ cond (is_direct_type (kind_in item)) (check_walked 38 39 (walked_by met long) (checked_of (first_failing (c40 (has_own_exception table item) item ∷ []))))
    (checked_of (first_failing (c40 (has_own_exception table item) item ∷ []))) =
    λ i. cond (is_direct_type (kind_in item)) (check_walked 38 39 (walks i) (last i)) (last i) in
    let key = CellKey.Act (start_in item) (kind_in item) in
    let seen_end : unless_own (end_in item) (seen (active_of table (start_in item) (kind_in item))) ≡ seen (other_end table item) =
    sym (seen_other (end_in item) (active_of table (start_in item) (kind_in item))) ∙ ap seen (other_end-is table item actives) in
    (λ i. cond active (on_seen (seen_end i) key (check_other_end cells item)) Checked.Passes)
    ∙ ((λ i. cond active (on_held (other_end table item) key (check_other_end cells item) i) Checked.Passes)
    ∙ ((λ i. cond active (unless_failed (first_failing (c37 (other_end table item) item ∷ [])) (parents i)) Checked.Passes)
    ∙ by_order active (is_direct_type (kind_in item)) (other_end table item) met long (has_own_exception table item)))

-- ---- C30 and the checks after it

-- the result over the cells of a table is the first check that fails on it
pub check_relation-cells : (table : Table) (issuer : List ℕ) (item : Row) → HasActives table
    → check_relation (cells_of table) issuer item ≡ checked_of (first_failing (relation_checks table issuer item))
unfolding check_relation
check_relation-cells table issuer item actives =
    let cells = cells_of table in
    let start = record_of table (start_in item) in
    let end = record_of table (end_in item) in
    let held = relation_of table (start_in item) (kind_in item) (end_in item) in
    let behind_36 : List Finding =
    c37 (other_end table item) item ∷ c38 (parent_of table) item ∷ c39 (parent_of table) item ∷ c40 (has_own_exception table item) item ∷ [] in
    let behind_35 : List Finding = c36 held item ∷ behind_36 in
    let behind_33 : List Finding = c34 start issuer item ∷ c35 start item ∷ behind_35 in
    let behind_32 : List Finding = c33 end ∷ behind_33 in
    let behind_31 : List Finding = c32 start ∷ behind_32 in
    let from_36 : check_held cells item held ≡ checked_of (first_failing behind_35) =
    ap (unless_failed (first_failing (c36 held item ∷ []))) (from_active table item actives) ∙ chained (c36 held item ∷ []) behind_36 in
    let from_34 : check_managed cells issuer item start ≡ checked_of (first_failing behind_33) =
    ap (unless_failed (first_failing (c34 start issuer item ∷ c35 start item ∷ [])))
    (on_held held (CellKey.Rel (start_in item) (kind_in item) (end_in item)) (check_held cells item) ∙ from_36)
    ∙ chained (c34 start issuer item ∷ c35 start item ∷ []) behind_35 in
    let from_33 : check_end cells issuer item start end ≡ checked_of (first_failing behind_32) =
    ap (unless_failed (first_failing (c33 end ∷ []))) from_34 ∙ chained (c33 end ∷ []) behind_33 in
    let from_32 : check_start cells issuer item start ≡ checked_of (first_failing behind_31) =
    ap (unless_failed (first_failing (c32 start ∷ [])))
    (on_held end (CellKey.Rec (end_in item)) (check_end cells issuer item start) ∙ from_33) ∙ chained (c32 start ∷ []) behind_32 in
    ap (unless_failed (first_failing (c30 item ∷ c31 item ∷ [])))
    (on_held start (CellKey.Rec (start_in item)) (check_start cells issuer item) ∙ from_32) ∙ chained (c30 item ∷ c31 item ∷ []) behind_31

-- ---- exceptions

withdrawn : (table : Table) (row : Row)
    → check_withdrawal (cells_of table) (row, true) (exception_category_in row)
    ≡ checked_of (first_failing (c53 (has_exception table (subject_in row) (exception_category_in row)) (row, true) ∷ []))
withdrawn table row =
    fact_seen (has_exception table (subject_in row) (exception_category_in row)) (CellKey.Exc (subject_in row) (exception_category_in row))
    (λ stands. checked_of (first_failing (c53 stands (row, true) ∷ [])))

put_by : (parent : Option (List ℕ)) (stands : Bool) (row : Row)
    → checked_of (first_failing (c52 parent (row, false) ∷ [])) ≡ checked_of (first_failing (c52 parent (row, false) ∷ c53 stands (row, false) ∷ []))
put_by None stands row = refl
put_by (Some parent) stands row = refl

from_subject : (table : Table) (issuer : List ℕ) (row : Row) (withdraws : Bool)
    → check_subject (cells_of table) issuer (row, withdraws) (record_of table (subject_in row)) ≡ checked_of (first_failing (exception_checks table issuer (row, withdraws)))
from_subject table issuer row true =
    let held = record_of table (subject_in row) in
    let behind : List Finding = c52 (active_of table (subject_in row) (parent_type (exception_category_in row))) (row, true)
    ∷ c53 (has_exception table (subject_in row) (exception_category_in row)) (row, true) ∷ [] in
    ap (unless_failed (first_failing (c50 held ∷ c51 held issuer ∷ []))) (withdrawn table row) ∙ chained (c50 held ∷ c51 held issuer ∷ []) behind
from_subject table issuer row false =
    let held = record_of table (subject_in row) in
    let kind = parent_type (exception_category_in row) in
    let parent = active_of table (subject_in row) kind in
    let stands = has_exception table (subject_in row) (exception_category_in row) in
    ap (unless_failed (first_failing (c50 held ∷ c51 held issuer ∷ [])))
    (on_held parent (CellKey.Act (subject_in row) kind) (λ p. checked_of (first_failing (c52 p (row, false) ∷ []))) ∙ put_by parent stands row)
    ∙ chained (c50 held ∷ c51 held issuer ∷ []) (c52 parent (row, false) ∷ c53 stands (row, false) ∷ [])

pub check_exception-cells : (table : Table) (issuer : List ℕ) (item : Row × Bool)
    → check_exception (cells_of table) issuer item ≡ checked_of (first_failing (exception_checks table issuer item))
unfolding check_exception
check_exception-cells table issuer item =
    on_held (record_of table (subject_in item.0)) (CellKey.Rec (subject_in item.0)) (check_subject (cells_of table) issuer item)
    ∙ from_subject table issuer item.0 item.1
