-- Taking an upload: what its items do to a table, from the first to the last.
use Rattle.std.specs.Prelude.{ℕ, ◌+◌, List, [], ◌∷◌, ◌++◌, Bool, false, ◌&&◌, if◌then◌else◌, Option, Some, None, is_none, ⊤}
use Rattle.lei_records.specs.declared.item.Item.{Item}
use Rattle.lei_records.specs.declared.item.Readied.{Readied}
use Rattle.lei_records.specs.declared.view.RowKey.{RowKey}
use Rattle.lei_records.specs.Cells.{lei_in}
use Rattle.lei_records.specs.Checks.{FailedCheck, Finding, first_failing}
use Rattle.lei_records.specs.Spelled.{IsExceptionRow, IsRecordRow, IsRelationRow}
use Rattle.lei_records.specs.Tables.{Table, record_of, put_all, row_key}
use Rattle.relation_rules.specs.Checks.{relation_checks, exception_checks}
use Rattle.register_judge.specs.declared.outcome.Verdict.{Verdict}
use Rattle.register_judge.specs.declared.sitting.Sitting.{Sitting}
use Rattle.register_judge.specs.Checks.{earlier_checks, record_checks}

-- The verdict, given the check that failed, if any.
abbrev pub verdict_of : Option FailedCheck → Verdict
verdict_of None = Verdict.Accepted
verdict_of (Some check) = Verdict.Rejected check

-- The checks of an item on a table, in a sitting: C05 to C22 of a record, C30 to C40 of a relationship, C50 to C53 of
-- an exception.
abbrev pub item_checks : Table → Sitting → Item → List Finding
item_checks table sitting (Item.Record row) = record_checks table sitting row
item_checks table sitting (Item.Relation row) = relation_checks table sitting.issuer row
item_checks table sitting (Item.Exception item) = exception_checks table sitting.issuer item

-- The verdict on an item: the first of its checks that fails, or that it is accepted. C01 to C04 were made before,
-- because they need no table.
abbrev pub verdict : Table → Sitting → Readied → Verdict
verdict table sitting (Readied.Bad check) = Verdict.Rejected check
verdict table sitting (Readied.Good item) = verdict_of (first_failing (item_checks table sitting item))

-- What is held under an item's key if it is accepted: the item, or nothing if it is a withdrawal.
abbrev pub item_after : Item → Option Item
item_after (Item.Record row) = Some (Item.Record row)
item_after (Item.Relation row) = Some (Item.Relation row)
item_after (Item.Exception item) = if item.1 then None else Some (Item.Exception item)

-- What an item with this verdict writes: that, under its key, if it is accepted, or else nothing.
abbrev pub writes_of : Verdict → Readied → List (RowKey × Option Item)
writes_of Verdict.Accepted (Readied.Good item) = (row_key item, item_after item) ∷ []
writes_of verdict item = []

-- The item is a record that reaches C20 while no record with its LEI is held.
abbrev pub is_new_record : Table → Sitting → Readied → Bool
is_new_record table sitting (Readied.Good (Item.Record item)) =
    is_none (record_of table (lei_in item)) && is_none (first_failing (earlier_checks table sitting item))
is_new_record table sitting item = false

-- The result of taking items: the table after them, a verdict for each, and the writes of the accepted ones. It also
-- has the number of new records, accepted or not.
pub record Taken : Type 0 where
  pub table : Table
  pub verdicts : List Verdict
  pub writes : List (RowKey × Option Item)
  pub new_records : ℕ

-- One item's verdict and writes, followed by those of the items after it.
abbrev pub in_front : Verdict → List (RowKey × Option Item) → Bool → Taken → Taken
in_front verdict writes new rest = record {
  table = rest.table;
  verdicts = verdict ∷ rest.verdicts;
  writes = writes ++ rest.writes;
  new_records = (if new then 1 else 0) + rest.new_records;
}

-- The items of an upload are taken from left to right in one sitting. Each is judged on the table so far, and an
-- accepted one is put, or withdrawn.
abbrev pub take : Table → Sitting → List Readied → Taken
take table sitting [] = record { table = table; verdicts = []; writes = []; new_records = 0 }
take table sitting (item ∷ items) =
    let given = verdict table sitting item in
    let writes = writes_of given item in
    in_front given writes (is_new_record table sitting item) (take (put_all writes table) sitting items)

-- The row of an item is a row of its kind: of a record, a relationship or an exception.
abbrev pub HasRow : Item → Type 0
HasRow (Item.Record row) = IsRecordRow row
HasRow (Item.Relation row) = IsRelationRow row
HasRow (Item.Exception item) = IsExceptionRow item.0

-- Each item that passed the checks of its fields has such a row.
abbrev pub HaveRows : List Readied → Type 0
HaveRows [] = ⊤
HaveRows (Readied.Bad check ∷ items) = HaveRows items
HaveRows (Readied.Good item ∷ items) = HasRow item × HaveRows items
