-- Who changed the register's records: each change was permitted to the issuer that sent it.
use Rattle.std.specs.Prelude.{◌≡◌, List, [], ◌∷◌, ◌++◌, fold, if◌then◌else◌, Option, Some, None, option_map}
use Rattle.std.specs.FinMap.{insert}
use Rattle.std.specs.List.{All}
use Rattle.lei_code.specs.Texts.{Lei}
use Rattle.lei_values.specs.declared.entry.KeptEntry.{KeptEntry}
use Rattle.lei_records.specs.Cells.{lei_in, manager_in, receiver_in, status_in}
use Rattle.lei_records.specs.Rows.{Row}
use Rattle.lei_records.specs.Tables.{Rows, Table, put_all, record_key, row_at}
use Rattle.lei_records.specs.declared.item.Item.{Item}
use Rattle.lei_records.specs.declared.item.Readied.{Readied}
use Rattle.status_rules.specs.Transitions.{party}
use Rattle.status_rules.specs.declared.transitions.Party.{Party}
use Rattle.register_judge.specs.declared.sitting.Sitting.{Sitting}
use Rattle.register_judge.specs.Taking.{verdict, writes_of}
use Rattle.register_judge.specs.declared.outcome.Verdict.{Verdict}
use Rattle.register_table.specs.Held.{no_rows}
use Rattle.register_words.specs.declared.limits.Limits.{Limits}
use Rattle.upload_ledger.specs.History.{History, is_upload}
use Rattle.register_history.specs.Register.{after, after_entry, entry_items, entry_sitting}
use Rattle.register_history.specs.State.{OfficeState}

-- A change of a record: the row held before under its LEI, if any, the row that replaced it, and the issuer that sent
-- it.
pub record Change : Type 0 where
  pub held : Option Row
  pub row : Row
  pub issuer : Lei

-- ---- the changes that a history made

-- what an item with this verdict changes: an accepted record changes its own row, and nothing else changes a record
abbrev pub changes_by : Table → Lei → Verdict → Readied → List Change
changes_by table issuer Verdict.Accepted (Readied.Good (Item.Record row)) =
    (record { held = row_at table (lei_in row); row = row; issuer = issuer }) ∷ []
changes_by table issuer verdict item = []

-- the changes that items make in a sitting, from left to right, each judged on the table that those before it left
abbrev pub item_changes : Table → Sitting → List Readied → List Change
item_changes table sitting [] = []
item_changes table sitting (item ∷ items) =
    let given = verdict table sitting item in
    changes_by table sitting.issuer given item
    ++ item_changes (put_all (writes_of given item) table) sitting items

-- the changes that an entry makes: those of its items if it is an upload, and otherwise none
abbrev pub entry_changes : Limits → Table → KeptEntry → List Change
entry_changes limits table e =
    if is_upload e then item_changes table (entry_sitting limits e) (entry_items e) else []

-- the changes that entries make, each on the table that those before it left
abbrev pub changes_since : Limits → Table → History → List Change
changes_since limits table [] = []
changes_since limits table (e ∷ rest) =
    entry_changes limits table e ++ changes_since limits (after_entry limits table e) rest

-- the changes of records that a history made, from the first
unfoldable pub changes : OfficeState → List Change
changes office = changes_since office.limits no_rows office.history

-- the rows of the records after a change
abbrev pub rows_after : Rows → Change → Rows
rows_after rows change = insert rows (record_key (lei_in change.row)) change.row

-- ---- who may make them

-- the issuer that a party to a change is: the item's manager, the held manager, or the held TransferTo
abbrev pub issuer_as : Option Row → Row → Party → Option Lei
issuer_as held row Party.New = Some (manager_in row)
issuer_as None row Party.Manager = None
issuer_as (Some held) row Party.Manager = Some (manager_in held)
issuer_as None row Party.Receiver = None
issuer_as (Some held) row Party.Receiver = receiver_in held

-- The change is permitted to a party, and its issuer is that party.
pub record IsPermitted (change : Change) : Type 0 where
  pub who : Party
  pub permitted : party (option_map status_in change.held) (status_in change.row) ≡ Some who
  pub is_issuer : issuer_as change.held change.row who ≡ Some change.issuer

-- each change of a record that the history made is permitted
abbrev pub ChangesArePermitted : OfficeState → Type 0
ChangesArePermitted office = All IsPermitted (changes office)

-- the records of the register are the result of its changes, starting from none: nothing else adds or changes a record
abbrev pub ChangesMakeRecords : OfficeState → Type 0
ChangesMakeRecords office = (after office.limits office.history).records
    ≡ fold rows_after no_rows.records (changes office)
