-- The checks over any view: the result that a view's cells give for a relationship and for an exception. If the view
-- lacks a cell that the checks need, the result reports the first such cell.
use Rattle.std.specs.Prelude.{ℕ, [], ◌∷◌, Bool, if◌then◌else◌, Option, Some, None, is_some}
use Rattle.lei_code.specs.Texts.{Lei}
use Rattle.lei_shapes.specs.declared.lists.ExceptionCategory.{ExceptionCategory}
use Rattle.lei_shapes.specs.declared.lists.RelationType.{RelationType}
use Rattle.lei_records.specs.declared.check.Detail.{Detail}
use Rattle.lei_records.specs.declared.view.CellKey.{CellKey}
use Rattle.lei_records.specs.declared.view.RecCell.{RecCell}
use Rattle.lei_records.specs.declared.view.RelCell.{RelCell}
use Rattle.lei_records.specs.declared.view.Seen.{Seen}
use Rattle.lei_records.specs.Cells.{Cells}
use Rattle.lei_records.specs.Checks.{FailedCheck, first_failing}
use Rattle.lei_records.specs.Exceptions.{exception_category_in, subject_in}
use Rattle.lei_records.specs.Parents.{is_direct_type, parent_category, parent_type}
use Rattle.lei_records.specs.Relations.{end_in, is_active, kind_in, start_in}
use Rattle.lei_records.specs.Rows.{Row}
use Rattle.authority_rules.specs.Taken.{unless_own}
use Rattle.successor_rules.specs.declared.walks.Walked.{Walked}
use Rattle.successor_rules.specs.Walks.{walk_over}
use Rattle.relation_rules.specs.declared.checked.Checked.{Checked}
use Rattle.relation_rules.specs.Checks.{c30, c31, c32, c33, c34, c35, c36, c37, c40, c50, c51, c52, c53}

-- ---- the results of checks

-- A check that failed, or a pass.
abbrev pub checked_of : Option FailedCheck → Checked
checked_of None = Checked.Passes
checked_of (Some check) = Checked.Fails check

-- A check that fails and reports nothing but its number.
abbrev pub check_failure : ℕ → Checked
check_failure number = Checked.Fails (record { number = number; detail = Detail.None })

-- The check that failed, or the result of those after it.
abbrev pub unless_failed : Option FailedCheck → Checked → Checked
unless_failed None next = next
unless_failed (Some check) next = Checked.Fails check

-- The result for what a cell has, or the cell's key if the view lacks it.
abbrev pub on_seen : {X : Type 0} → Seen X → CellKey → (Option X → Checked) → Checked
on_seen (Seen.Held x) key next = next (Some x)
on_seen Seen.Empty key next = next None
on_seen Seen.Missing key next = Checked.Missing key

-- The check with the first number fails if a walk comes back to its start. The one with the second number fails if the
-- walk is too long.
abbrev pub check_walked : ℕ → ℕ → Walked → Checked → Checked
check_walked cycle long Walked.Meets next = check_failure cycle
check_walked cycle long Walked.Long next = check_failure long
check_walked cycle long Walked.Ends next = next
check_walked cycle long (Walked.Missing key) next = Checked.Missing key

-- ---- a relationship

-- C40 of a relationship by the category of its parents: whether there is an exception. One that isn't a parent needs
-- none.
abbrev pub check_category : Cells → Row → Option ExceptionCategory → Checked
check_category cells item None = Checked.Passes
check_category cells item (Some category) =
    on_seen (cells.exception (start_in item) category) (CellKey.Exc (start_in item) category)
    (λ stands. checked_of (first_failing (c40 (is_some stands) item ∷ [])))

-- The walk of direct parents from the member `first`, for an entity whose own LEI is `start`.
abbrev pub walk_parents : Cells → Lei → Lei → Walked
walk_parents cells start first =
    walk_over (λ lei. cells.active lei RelationType.IsDirectlyConsolidatedBy)
    (λ lei. CellKey.Act lei RelationType.IsDirectlyConsolidatedBy) start first

-- C38 to C40 of an active relationship, by its type.
abbrev pub check_parents : Cells → Row → Checked
check_parents cells item =
    if is_direct_type (kind_in item)
    then check_walked 38 39 (walk_parents cells (start_in item) (end_in item))
    (check_category cells item (parent_category (kind_in item)))
    else check_category cells item (parent_category (kind_in item))

-- C37 to C40, with the other end of the active relationship of the item's start and type.
abbrev pub check_other_end : Cells → Row → Option Lei → Checked
check_other_end cells item other = unless_failed (first_failing (c37 other item ∷ []))
    (check_parents cells item)

-- The same if the end isn't known yet. A relationship that isn't active needs no further cell, and its own end doesn't
-- count as another one.
abbrev pub check_active : Cells → Row → Checked
check_active cells item =
    if is_active item
    then on_seen (unless_own (end_in item) (cells.active (start_in item) (kind_in item)))
    (CellKey.Act (start_in item) (kind_in item)) (check_other_end cells item)
    else Checked.Passes

-- C36 to C40, with the relationship that is held under the item's key.
abbrev pub check_held : Cells → Row → Option RelCell → Checked
check_held cells item held = unless_failed (first_failing (c36 held item ∷ [])) (check_active cells item)

-- C34 to C40, with the record of the start.
abbrev pub check_managed : Cells → Lei → Row → Option RecCell → Checked
check_managed cells issuer item start =
    unless_failed (first_failing (c34 start issuer item ∷ c35 start item ∷ []))
    (on_seen (cells.relation (start_in item) (kind_in item) (end_in item))
    (CellKey.Rel (start_in item) (kind_in item) (end_in item)) (check_held cells item))

-- C33 to C40, with the records of the start and of the end.
abbrev pub check_end : Cells → Lei → Row → Option RecCell → Option RecCell → Checked
check_end cells issuer item start end =
    unless_failed (first_failing (c33 end ∷ [])) (check_managed cells issuer item start)

-- C32 to C40, with the record of the start.
abbrev pub check_start : Cells → Lei → Row → Option RecCell → Checked
check_start cells issuer item start =
    unless_failed (first_failing (c32 start ∷ []))
    (on_seen (cells.record_cell (end_in item)) (CellKey.Rec (end_in item))
    (check_end cells issuer item start))

-- The result of the checks C30 to C40 over a view, for a relationship that an issuer uploads.
unfoldable pub check_relation : Cells → Lei → Row → Checked
check_relation cells issuer item =
    unless_failed (first_failing (c30 item ∷ c31 item ∷ []))
    (on_seen (cells.record_cell (start_in item)) (CellKey.Rec (start_in item))
    (check_start cells issuer item))

-- ---- an exception

-- C52 of a put, by the type of the parents that it is about.
abbrev pub check_put : Cells → Row × Bool → RelationType → Checked
check_put cells item kind =
    on_seen (cells.active (subject_in item.0) kind) (CellKey.Act (subject_in item.0) kind)
    (λ parent. checked_of (first_failing (c52 parent item ∷ [])))

-- C53 of a withdrawal, by its category.
abbrev pub check_withdrawal : Cells → Row × Bool → ExceptionCategory → Checked
check_withdrawal cells item category =
    on_seen (cells.exception (subject_in item.0) category) (CellKey.Exc (subject_in item.0) category)
    (λ stands. checked_of (first_failing (c53 (is_some stands) item ∷ [])))

-- C52 or C53, by the action.
abbrev pub check_action : Cells → Row × Bool → Checked
check_action cells item =
    if item.1 then check_withdrawal cells item (exception_category_in item.0)
    else check_put cells item (parent_type (exception_category_in item.0))

-- C50 to C53, with the record of the exception's LEI.
abbrev pub check_subject : Cells → Lei → Row × Bool → Option RecCell → Checked
check_subject cells issuer item held =
    unless_failed (first_failing (c50 held ∷ c51 held issuer ∷ [])) (check_action cells item)

-- The result of the checks C50 to C53 over a view, for an exception that an issuer uploads.
unfoldable pub check_exception : Cells → Lei → Row × Bool → Checked
check_exception cells issuer item =
    on_seen (cells.record_cell (subject_in item.0)) (CellKey.Rec (subject_in item.0))
    (check_subject cells issuer item)
