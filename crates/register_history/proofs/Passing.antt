-- What an accepted record says of the table that it was judged on, and of the office that sent it.
use Rattle.std.proofs.Common.{◌≡◌, List, [], ◌∷◌, ◌++◌, fold, Bool, true, false, not, cond, bytes_eq, Option, Some, None, is_none, option_map, refl, sym, ap, ◌∙◌}
use Rattle.std.specs.List.{All}
use Rattle.std.specs.Option.{option_map_or}
use Rattle.std.proofs.lemmas.List.Elements.{All-append, All-cons, All-nil}
use Rattle.std.proofs.lemmas.List.Sums.{fold-append}
use Rattle.std.proofs.lemmas.Slice.Eq.{bytes_eq-Decides}
use Rattle.lei_code.specs.Texts.{Lei}
use Rattle.lei_values.specs.declared.entry.KeptEntry.{KeptEntry}
use Rattle.lei_shapes.specs.declared.lists.RecordStatus.{RecordStatus}
use Rattle.lei_records.specs.Cells.{lei_in, manager_in, receiver_in, rec_cell, status_in}
use Rattle.lei_records.specs.Rows.{Row}
use Rattle.lei_records.specs.Tables.{Table, put_all, row_at}
use Rattle.lei_records.specs.declared.item.Item.{Item}
use Rattle.lei_records.specs.declared.item.Readied.{Readied}
use Rattle.lei_records.specs.Checks.{FailedCheck, Finding, first_failing}
use Rattle.status_rules.specs.Statuses.{is_issued}
use Rattle.status_rules.specs.Transitions.{party}
use Rattle.status_rules.specs.declared.transitions.Party.{Party}
use Rattle.register_judge.specs.Checks.{record_checks, is_another, c09, c10, c11, c12}
use Rattle.register_judge.specs.declared.sitting.Sitting.{Sitting}
use Rattle.register_judge.specs.Taking.{take, verdict, verdict_of, writes_of}
use Rattle.register_judge.specs.declared.outcome.Verdict.{Verdict}
use Rattle.register_table.specs.Held.{no_rows}
use Rattle.register_words.specs.declared.limits.Limits.{Limits}
use Rattle.upload_ledger.specs.History.{History, is_upload}
use Rattle.register_history.specs.Parties.{Change, ChangesArePermitted, ChangesMakeRecords, IsPermitted, changes, changes_by, changes_since, entry_changes, item_changes, rows_after}
use Rattle.register_history.specs.Register.{after, after_entry, entry_items, entry_sitting, take_items}
use Rattle.register_history.specs.State.{OfficeState}

-- a check passes, and the others do
pub record BothPass (fails : Bool) (Others : Type 0) : Type 0 where
  pub first : fails ≡ false
  pub others : Others

abbrev pub AllPass : List Finding → Type 0
AllPass [] = Unit {0}
AllPass (line ∷ lines) = BothPass line.fails (AllPass lines)

pub passing : (lines : List Finding) → first_failing lines ≡ None → AllPass lines
passing [] none = tt
passing (line ∷ lines) none =
    elim line.fails as (λ b. cond b (Some (record { number = line.number; detail = line.detail })) (first_failing lines) ≡ None → BothPass b (AllPass lines)) [
      | true ↦ λ is. cc
      | false ↦ λ is. record { first = refl; others = passing lines is }
    ] none

-- if all pass, those after the first ones do
pub passing_behind : (first behind : List Finding) → AllPass (first ++ behind) → AllPass behind
passing_behind [] behind pass = pass
passing_behind (line ∷ first) behind pass = passing_behind first behind pass.others

accepted-none : (failed : Option FailedCheck) → verdict_of failed ≡ Verdict.Accepted → failed ≡ None
accepted-none None is = refl
accepted-none (Some check) is = cc

-- ---- the party to a change

-- the change from what was held to this row, by this issuer
abbrev change_of : Option Row → Row → Lei → Change
change_of held row issuer = record { held = held; row = row; issuer = issuer }

unless-false : (b : Bool) → not b ≡ false → b ≡ true
unless-false true is = refl
unless-false false is = cc

same_issuer : (a b : Lei) → not (bytes_eq a b) ≡ false → a ≡ b
same_issuer a b is = (bytes_eq-Decides a b).0 (unless-false (bytes_eq a b) is)

receiver_is : (issuer : Lei) (to : Option Lei) → not (option_map_or (bytes_eq issuer) to false) ≡ false → to ≡ Some issuer
receiver_is issuer None is = cc
receiver_is issuer (Some other) is = ap Some (sym (same_issuer issuer other is))

new-is_issued : (status : RecordStatus) → not (is_issued status) ≡ false → party None status ≡ Some Party.New
new-is_issued RecordStatus.Issued is = refl
new-is_issued RecordStatus.Lapsed is = cc
new-is_issued RecordStatus.PendingTransfer is = cc
new-is_issued RecordStatus.PendingArchival is = cc
new-is_issued RecordStatus.Retired is = cc
new-is_issued RecordStatus.Duplicate is = cc
new-is_issued RecordStatus.Annulled is = cc

by_party : (held row : Row) (issuer : Lei) (found : Option Party) → party (Some (status_in held)) (status_in row) ≡ found
    → not (bytes_eq (manager_in row) issuer) ≡ false → is_none found ≡ false → is_another (rec_cell held) issuer found ≡ false → IsPermitted (change_of (Some held) row issuer)
by_party held row issuer None is own some another = cc
by_party held row issuer (Some Party.New) is own some another = record { who = Party.New; permitted = is; is_issuer = ap Some (same_issuer (manager_in row) issuer own) }
by_party held row issuer (Some Party.Manager) is own some another = record { who = Party.Manager; permitted = is; is_issuer = ap Some (same_issuer (manager_in held) issuer another) }
by_party held row issuer (Some Party.Receiver) is own some another = record { who = Party.Receiver; permitted = is; is_issuer = receiver_is issuer (receiver_in held) another }

by_held : (held : Option Row) (row : Row) (issuer : Lei) → (c09 issuer row).fails ≡ false → (c10 (option_map rec_cell held) row).fails ≡ false → (c11 (option_map rec_cell held) row).fails ≡ false
    → (c12 (option_map rec_cell held) issuer row).fails ≡ false → IsPermitted (change_of held row issuer)
by_held None row issuer own new change asked = record { who = Party.New; permitted = new-is_issued (status_in row) new; is_issuer = ap Some (same_issuer (manager_in row) issuer own) }
by_held (Some held) row issuer own new change asked = by_party held row issuer (party (Some (status_in held)) (status_in row)) refl own change asked

permitted : (table : Table) (sitting : Sitting) (row : Row) → first_failing (record_checks table sitting row) ≡ None → IsPermitted (change_of (row_at table (lei_in row)) row sitting.issuer)
permitted table sitting row none =
    let from_c09 = (passing (record_checks table sitting row) none).others.others.others.others in
    by_held (row_at table (lei_in row)) row sitting.issuer from_c09.first from_c09.others.first from_c09.others.others.first from_c09.others.others.others.first

-- ---- each of a history's changes

by_verdict : (table : Table) (sitting : Sitting) (given : Verdict) (item : Readied) → verdict table sitting item ≡ given → All IsPermitted (changes_by table sitting.issuer given item)
by_verdict table sitting (Verdict.Rejected check) item is = All-nil IsPermitted
by_verdict table sitting Verdict.Accepted (Readied.Bad check) is = All-nil IsPermitted
by_verdict table sitting Verdict.Accepted (Readied.Good (Item.Relation row)) is = All-nil IsPermitted
by_verdict table sitting Verdict.Accepted (Readied.Good (Item.Exception item)) is = All-nil IsPermitted
by_verdict table sitting Verdict.Accepted (Readied.Good (Item.Record row)) is =
    All-cons IsPermitted _ [] (permitted table sitting row (accepted-none (first_failing (record_checks table sitting row)) is)) (All-nil IsPermitted)

items_permitted : (table : Table) (sitting : Sitting) (items : List Readied) → All IsPermitted (item_changes table sitting items)
items_permitted table sitting [] = All-nil IsPermitted
items_permitted table sitting (item ∷ items) =
    let given = verdict table sitting item in
    All-append IsPermitted _ _ (by_verdict table sitting given item refl) (items_permitted (put_all (writes_of given item) table) sitting items)

entry_permitted : (limits : Limits) (table : Table) (e : KeptEntry) → All IsPermitted (entry_changes limits table e)
entry_permitted limits table e =
    elim (is_upload e) as (λ b. All IsPermitted (cond b (item_changes table (entry_sitting limits e) (entry_items e)) [])) [
      | true ↦ items_permitted table (entry_sitting limits e) (entry_items e)
      | false ↦ All-nil IsPermitted
    ]

entries_permitted : (limits : Limits) (table : Table) (history : History) → All IsPermitted (changes_since limits table history)
entries_permitted limits table [] = All-nil IsPermitted
entries_permitted limits table (e ∷ rest) = All-append IsPermitted _ _ (entry_permitted limits table e) (entries_permitted limits (after_entry limits table e) rest)

pub all_permitted : (office : OfficeState) → ChangesArePermitted office
unfolding changes
all_permitted office = entries_permitted office.limits no_rows office.history

-- ---- the records are the result of the changes

verdict_records : (table : Table) (issuer : Lei) (given : Verdict) (item : Readied) → (put_all (writes_of given item) table).records ≡ fold rows_after table.records (changes_by table issuer given item)
verdict_records table issuer (Verdict.Rejected check) item = refl
verdict_records table issuer Verdict.Accepted (Readied.Bad check) = refl
verdict_records table issuer Verdict.Accepted (Readied.Good (Item.Record row)) = refl
verdict_records table issuer Verdict.Accepted (Readied.Good (Item.Relation row)) = refl
verdict_records table issuer Verdict.Accepted (Readied.Good (Item.Exception (row, true))) = refl
verdict_records table issuer Verdict.Accepted (Readied.Good (Item.Exception (row, false))) = refl

items_records : (table : Table) (sitting : Sitting) (items : List Readied) → (take table sitting items).table.records ≡ fold rows_after table.records (item_changes table sitting items)
items_records table sitting [] = refl
items_records table sitting (item ∷ items) =
    let given = verdict table sitting item in
    let after_it = put_all (writes_of given item) table in
    let rest = item_changes after_it sitting items in
    items_records after_it sitting items
    ∙ (ap (λ rows. fold rows_after rows rest) (verdict_records table sitting.issuer given item) ∙ sym (fold-append rows_after table.records (changes_by table sitting.issuer given item) rest))

entry_records : (limits : Limits) (table : Table) (e : KeptEntry) → (after_entry limits table e).records ≡ fold rows_after table.records (entry_changes limits table e)
entry_records limits table e =
    elim (is_upload e) as (λ b. (cond b (take_items limits table e (entry_items e)).table table).records
    ≡ fold rows_after table.records (cond b (item_changes table (entry_sitting limits e) (entry_items e)) [])) [
      | true ↦ items_records table (entry_sitting limits e) (entry_items e)
      | false ↦ refl
    ]

entries_records : (limits : Limits) (table : Table) (history : History) → (fold (after_entry limits) table history).records ≡ fold rows_after table.records (changes_since limits table history)
entries_records limits table [] = refl
entries_records limits table (e ∷ rest) =
    let others = changes_since limits (after_entry limits table e) rest in
    entries_records limits (after_entry limits table e) rest
    ∙ (ap (λ rows. fold rows_after rows others) (entry_records limits table e) ∙ sym (fold-append rows_after table.records (entry_changes limits table e) others))

pub all_records : (office : OfficeState) → ChangesMakeRecords office
unfolding changes after
all_records office = entries_records office.limits no_rows office.history
