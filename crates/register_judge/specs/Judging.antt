-- Judging over any view: the judgement of items by a view's cells, or the first cell that they need and the view lacks.
use Rattle.std.specs.Prelude.{ℕ, ◌+◌, List, [], ◌∷◌, ◌++◌, Bool, true, false, if◌then◌else◌, Option, Some, None, is_none, Result, Ok, Err}
use Rattle.lei_code.specs.Texts.{Lei, Text}
use Rattle.lei_records.specs.declared.item.Item.{Item}
use Rattle.lei_records.specs.declared.item.Readied.{Readied}
use Rattle.lei_records.specs.declared.view.CellKey.{CellKey}
use Rattle.lei_records.specs.declared.view.RecCell.{RecCell}
use Rattle.lei_records.specs.declared.view.RowKey.{RowKey}
use Rattle.lei_records.specs.declared.view.Seen.{Seen}
use Rattle.lei_records.specs.Cells.{Cells, lei_in, successor_in, successors_in, is_live, akey}
use Rattle.lei_records.specs.Checks.{FailedCheck, first_failing}
use Rattle.lei_records.specs.Rows.{Row}
use Rattle.authority_rules.specs.Taken.{taken}
use Rattle.successor_rules.specs.Successors.{walk, walk_by_levels}
use Rattle.relation_rules.specs.declared.checked.Checked.{Checked}
use Rattle.relation_rules.specs.Checking.{check_exception, check_relation, check_walked, checked_of, on_seen, unless_failed}
use Rattle.register_judge.specs.declared.judge.ItemOutcome.{ItemOutcome}
use Rattle.register_judge.specs.declared.outcome.Verdict.{Verdict}
use Rattle.lei_records.specs.declared.rules.Rules.{Rules}
use Rattle.register_judge.specs.declared.sitting.Sitting.{Sitting}
use Rattle.register_judge.specs.Checks.{own_checks, held_checks, c16, c19, late_checks}
use Rattle.register_judge.specs.Overlays.{put_in_view}
use Rattle.register_judge.specs.Sittings.{is_at_limit}
use Rattle.register_judge.specs.Taking.{verdict_of, writes_of}

-- ---- a record, from C05 to C19

-- The cell of an authority key. For a record without a key no cell is looked up.
abbrev pub key_cell : Option (Text × Text) → CellKey
key_cell None = CellKey.Key [] []
key_cell (Some key) = CellKey.Key key.0 key.1

-- C19. The key of a record that isn't live isn't looked up.
abbrev pub check_key : Cells → Row → Checked
check_key cells item =
    if is_live item
    then on_seen (taken cells item) (key_cell (akey item))
    (λ other. checked_of (first_failing (c19 other item ∷ [])))
    else Checked.Passes

-- C16 to C19, with the record of the successor.
abbrev pub check_named : Cells → Row → Lei → Option RecCell → Checked
check_named cells item successor found =
    unless_failed (first_failing (c16 found ∷ []))
    (check_walked 17 18 (walk cells (lei_in item) successor) (check_key cells item))

-- C16 to C19 by the first rules, with the one successor. An item without a successor has only C19.
abbrev pub check_first : Cells → Row → Option Lei → Checked
check_first cells item None = check_key cells item
check_first cells item (Some successor) =
    on_seen (cells.record_cell successor) (CellKey.Rec successor) (check_named cells item successor)

-- C16 of successors, one after another, and then `next` if all of them are held.
abbrev pub check_each : Cells → List Lei → Checked → Checked
check_each cells [] next = next
check_each cells (successor ∷ successors) next =
    on_seen (cells.record_cell successor) (CellKey.Rec successor)
    (λ found. unless_failed (first_failing (c16 found ∷ [])) (check_each cells successors next))

-- C16 to C19 by the later rules, with all successors. An item without successors has only C19.
abbrev pub check_levels : Cells → Row → List Lei → Checked
check_levels cells item [] = check_key cells item
check_levels cells item (successor ∷ successors) =
    check_each cells (successor ∷ successors)
    (check_walked 17 18 (walk_by_levels cells (lei_in item) (successor ∷ successors)) (check_key cells item))

-- C16 to C19 by the given rules.
abbrev pub check_successors : Rules → Cells → Row → Checked
check_successors Rules.First cells item = check_first cells item (successor_in item)
check_successors Rules.Second cells item = check_levels cells item (successors_in item)
check_successors Rules.Third cells item = check_levels cells item (successors_in item)

-- C10 to C19, with the record that is held under the item's LEI.
abbrev pub check_with_held : Cells → Sitting → Row → Option RecCell → Checked
check_with_held cells sitting item held =
    unless_failed (first_failing (held_checks held sitting item))
    (check_successors sitting.rules cells item)

-- The result of the checks C05 to C19 of a record over a view, in a sitting.
unfoldable pub check_record : Cells → Sitting → Row → Checked
check_record cells sitting item =
    unless_failed (first_failing (own_checks sitting item))
    (on_seen (cells.record_cell (lei_in item)) (CellKey.Rec (lei_in item))
    (check_with_held cells sitting item))

-- ---- an item

-- The outcome of an item that a check rejects.
abbrev pub rejection : FailedCheck → ItemOutcome
rejection check = record { verdict = Verdict.Rejected check; new = false }

-- The outcome of an accepted item that takes up no room.
abbrev pub acceptance : ItemOutcome
acceptance = record { verdict = Verdict.Accepted; new = false }

-- The outcome of a record that reached C20: this or a later check fails, or none does. The record is new if none is
-- held under its LEI.
abbrev pub judge_late : Sitting → Row → Option RecCell → Bool → ItemOutcome
judge_late sitting item held full = record
    { verdict = verdict_of (first_failing (late_checks sitting item held full)); new = is_none held }

-- The outcome of an item, given the result of its checks. `passed` is its outcome if they pass.
abbrev pub item_outcome_by : Checked → ItemOutcome → Result ItemOutcome CellKey
item_outcome_by Checked.Passes passed = Ok passed
item_outcome_by (Checked.Fails check) passed = Ok (rejection check)
item_outcome_by (Checked.Missing key) passed = Err key

-- What a cell has, as far as the view knows.
abbrev pub value_seen : {X : Type 0} → Seen X → Option X
value_seen (Seen.Held x) = Some x
value_seen Seen.Empty = None
value_seen Seen.Missing = None

-- The outcome of a record. The checks from C20 on come last, with the record that is held under its LEI.
abbrev pub judge_record : Cells → Bool → Sitting → Row → Result ItemOutcome CellKey
judge_record cells full sitting item =
    item_outcome_by (check_record cells sitting item)
    (judge_late sitting item (value_seen (cells.record_cell (lei_in item))) full)

-- The outcome of an item in a sitting. If `full` is true, no further record fits.
abbrev pub judge_item : Cells → Bool → Sitting → Readied → Result ItemOutcome CellKey
judge_item cells full sitting (Readied.Bad check) = Ok (rejection check)
judge_item cells full sitting (Readied.Good (Item.Record item)) = judge_record cells full sitting item
judge_item cells full sitting (Readied.Good (Item.Relation item)) =
    item_outcome_by (check_relation cells sitting.issuer item) acceptance
judge_item cells full sitting (Readied.Good (Item.Exception item)) =
    item_outcome_by (check_exception cells sitting.issuer item) acceptance

-- ---- items from the first to the last

-- The cells after these writes.
abbrev pub put_writes : List (RowKey × Option Item) → Cells → Cells
put_writes [] cells = cells
put_writes (write ∷ writes) cells = put_writes writes (put_in_view cells write)

-- The cells after an item, given its outcome.
abbrev pub cells_after : Result ItemOutcome CellKey → Readied → Cells → Cells
cells_after (Err key) item cells = cells
cells_after (Ok judged) item cells = put_writes (writes_of judged.verdict item) cells

-- The number of records that an item adds: one if it is accepted and new.
abbrev pub records_added : Verdict → Bool → ℕ
records_added Verdict.Accepted true = 1
records_added verdict new = 0

-- The number of records after an item, given its outcome.
abbrev pub count_after : Result ItemOutcome CellKey → ℕ → ℕ
count_after (Err key) count = count
count_after (Ok judged) count = count + records_added judged.verdict judged.new

-- A judgement: verdicts, writes, and the number of new records.
pub record Judgement : Type 0 where
  pub verdicts : List Verdict
  pub writes : List (RowKey × Option Item)
  pub new_records : ℕ

-- The judgement of one item, followed by that of the items after it.
abbrev pub item_in_front : ItemOutcome → Readied → Judgement → Judgement
item_in_front judged item rest = record {
  verdicts = judged.verdict ∷ rest.verdicts;
  writes = writes_of judged.verdict item ++ rest.writes;
  new_records = (if judged.new then 1 else 0) + rest.new_records;
}

-- The same if the view may lack cells: then the first such cell is the result for all items.
abbrev pub before : Result ItemOutcome CellKey → Readied → Result Judgement CellKey → Result Judgement CellKey
before (Err key) item rest = Err key
before (Ok judged) item (Err key) = Err key
before (Ok judged) item (Ok rest) = Ok (item_in_front judged item rest)

-- The judgement of items in a sitting, from the first to the last. Each is judged on the cells after the accepted ones
-- before it are put. The limit is on a count of records that starts at `count` and grows with each record that is
-- added.
unfoldable pub judge_items : Cells → ℕ → Sitting → List Readied → Result Judgement CellKey
judge_items cells count sitting [] = Ok (record { verdicts = []; writes = []; new_records = 0 })
judge_items cells count sitting (item ∷ items) =
    let judged = judge_item cells (is_at_limit sitting count) sitting item in
    before judged item (judge_items (cells_after judged item cells) (count_after judged count) sitting items)
