-- The register: the table that a history's uploads leave.
use Rattle.std.specs.Prelude.{◌≡◌, ◌+◌, List, [], length, map, fold, if◌then◌else◌, Result, Ok, Err}
use Rattle.std.specs.FinMap.{empty}
use Rattle.lei_values.specs.declared.entry.KeptEntry.{KeptEntry}
use Rattle.lei_shapes.specs.Moment.{day_of}
use Rattle.upload_format.specs.Bodies.{upload}
use Rattle.register_words.specs.declared.malformed.Malformed.{Malformed}
use Rattle.item_fields.specs.Items.{ready}
use Rattle.lei_records.specs.Tables.{Table}
use Rattle.item_fields.specs.declared.item.RawItem.{RawItem}
use Rattle.lei_records.specs.declared.item.Readied.{Readied}
use Rattle.lei_records.specs.declared.rules.Rules.{Rules}
use Rattle.register_judge.specs.declared.sitting.Sitting.{Sitting}
use Rattle.lei_records.specs.RuleNumbers.{rules_of}
use Rattle.register_judge.specs.Sittings.{sitting_by}
use Rattle.register_judge.specs.Taking.{Taken, take}
use Rattle.register_table.specs.Held.{Held, TableState, no_rows, rows}
use Rattle.register_table.specs.Undos.{IsLater, WriteList, touch_all}
use Rattle.register_words.specs.declared.limits.Limits.{Limits}
use Rattle.lei_values.specs.KeptTables.{entry_number}
use Rattle.upload_ledger.specs.History.{History, is_upload, last_entry}
use Rattle.register_history.specs.State.{OfficeState}

-- the items of a body after the checks of their fields by these rules, and none if the body isn't an upload
abbrev pub readied_items : Rules → Result (List RawItem) Malformed → List Readied
readied_items rules (Ok raws) = map (ready rules) raws
readied_items rules (Err fault) = []

-- the items of an entry's body, read by the entry's rules
abbrev pub entry_items : KeptEntry → List Readied
entry_items e = readied_items (rules_of e.rules) (upload e.body)

-- The sitting in which the items of an entry are judged. They are judged by the entry's rules, for its issuer, on the
-- day of its moment, and under the limit on records.
abbrev pub entry_sitting : Limits → KeptEntry → Sitting
entry_sitting limits e = sitting_by (rules_of e.rules) limits.records (day_of e.moment) e.office

-- what these items of an entry do to a table
abbrev pub take_items : Limits → Table → KeptEntry → List Readied → Taken
take_items limits table e items = take table (entry_sitting limits e) items

-- the table after an entry: an upload takes its items, and every other entry leaves it unchanged
abbrev pub after_entry : Limits → Table → KeptEntry → Table
after_entry limits table e = if is_upload e then (take_items limits table e (entry_items e)).table else table

-- the table after a history, starting without records
unfoldable pub after : Limits → History → Table
after limits history = fold (after_entry limits) no_rows history

-- ---- the cells of the register

-- what an entry writes, judged on a table: the accepted items of an upload, and nothing for any other entry
abbrev pub entry_writes : Limits → Table → KeptEntry → WriteList
entry_writes limits table e = if is_upload e then (take_items limits table e (entry_items e)).writes else []

-- the cells after an entry: each key that it writes has its number, and the row of the item or none
abbrev pub held_after_entry : Limits → Held → KeptEntry → Held
held_after_entry limits held e = touch_all e.seq (entry_writes limits (rows held) e) held

-- the cells after a history, starting from none
unfoldable pub held_after : Limits → History → Held
held_after limits history = fold (held_after_entry limits) empty history

-- The rows of the register's cells are those of the register.
abbrev pub CellsHaveTheRows : OfficeState → Type 0
CellsHaveTheRows office = rows (held_after office.limits office.history) ≡ after office.limits office.history

-- The table that is kept after a history. It has the cells after the history, and their rows are those of the table
-- after it. No cell has a number greater than that of the last entry, which is the number of entries.
pub record IsKeptAfter (limits : Limits) (history : History) (table : TableState) : Type 0 where
  pub held : table.held ≡ held_after limits history
  pub rows : rows table.held ≡ after limits history
  pub numbers : IsLater (length history + 1) table.held
  pub last : entry_number (last_entry history) ≡ length history
