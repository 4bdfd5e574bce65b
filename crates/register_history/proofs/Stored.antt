-- The cells of a register are under keys of rows, and were touched by its entries.
use Rattle.std.proofs.Common.{◌≡◌, ℕ, ◌≤◌, ◌+◌, List, [], ◌∷◌, ◌++◌, fold, length, true, false, cond, ◌==◌, Option, Some, None, refl, sym, ap, subst, ◌∙◌, arith, append-nil, append_assoc, length-append}
use Rattle.std.specs.FinMap.{empty, get, get-empty, get-insert}
use Rattle.std.specs.List.{AllByRecursion}
use Rattle.std.specs.Ordering.{eq_by_cmp}
use Rattle.authority_rules.proofs.HolderLemmas.{keys_total, same_key, some_apart}
use Rattle.lei_values.specs.declared.entry.KeptEntry.{KeptEntry}
use Rattle.lei_records.specs.Checks.{FailedCheck, first_failing}
use Rattle.lei_records.specs.Tables.{Table, key_cmp, put_all, put_write, row_key}
use Rattle.lei_records.specs.declared.item.Item.{Item}
use Rattle.lei_records.specs.declared.item.Readied.{Readied}
use Rattle.lei_records.specs.declared.view.RowKey.{RowKey}
use Rattle.register_judge.specs.declared.sitting.Sitting.{Sitting}
use Rattle.register_judge.specs.Taking.{HasRow, HaveRows, Taken, in_front, is_new_record, item_after, item_checks, take, verdict_of, writes_of}
use Rattle.register_table.specs.Held.{Held, cell_key, rows}
use Rattle.register_table.specs.Undos.{WriteList, cell_with, touch, touch_all}
use Rattle.upload_format.specs.Bodies.{upload}
use Rattle.upload_ledger.specs.History.{History}
use Rattle.register_words.specs.declared.limits.Limits.{Limits}
use Rattle.register_history.specs.Kept.{IsKey}
use Rattle.register_history.specs.Legal.{Legal, LegalAfter}
use Rattle.register_history.specs.Register.{entry_items, entry_sitting, entry_writes, held_after, held_after_entry, take_items}
use Rattle.register_history.specs.State.{office_of}
use Rattle.register_history.proofs.AskedFor.{next-seq}
use Rattle.register_history.specs.Standing.{AreRowCells, IsRowCell}
use Rattle.register_history.proofs.Registers.{read-rows}
use Rattle.lei_records.specs.RuleNumbers.{rules_of}

-- the key of an item's row
row-key : (item : Item) → HasRow item → IsKey (row_key item)
row-key (Item.Record row) is = is.lei
row-key (Item.Relation row) is = (is.start, is.end)
row-key (Item.Exception item) is = is.lei

abbrev AreKeys : WriteList → Type 0
AreKeys writes = AllByRecursion (λ write. IsKey write.0) writes

with_first : Table → Sitting → Item → List Readied → Option FailedCheck → Taken
with_first table sitting item items failed =
    let writes = writes_of (verdict_of failed) (Readied.Good item) in
    in_front (verdict_of failed) writes (is_new_record table sitting (Readied.Good item)) (take (put_all writes table) sitting items)

take-keys : (table : Table) (sitting : Sitting) (items : List Readied) → HaveRows items → AreKeys (take table sitting items).writes
unfolding with_first
take-keys table sitting [] rows = tt
take-keys table sitting (Readied.Bad check ∷ items) rows = take-keys table sitting items rows
take-keys table sitting (Readied.Good item ∷ items) rows =
    elim (first_failing (item_checks table sitting item)) as (λ failed. AreKeys (with_first table sitting item items failed).writes) [
      | None ↦ (row-key item rows.0, take-keys (put_write table (row_key item, item_after item)) sitting items rows.1)
      | Some check ↦ take-keys table sitting items rows.1
    ]

entry-keys : (limits : Limits) (table : Table) (e : KeptEntry) → AreKeys (entry_writes limits table e)
entry-keys limits table e =
    elim (e.kind == 2) as (λ b. AreKeys (cond b (take_items limits table e (entry_items e)).writes [])) [
      | true ↦ take-keys table (entry_sitting limits e) (entry_items e) (read-rows (rules_of e.rules) (upload e.body))
      | false ↦ tt
    ]

-- ---- what an entry touches

touch-stands : (number : ℕ) (held : Held) (key : RowKey) (item : Option Item) → 1 ≤ number → IsKey key → AreRowCells number held → AreRowCells number (touch number held (key, item))
touch-stands number held key item some is all q cell found =
    let new = cell_with number item in
    elim (eq_by_cmp key_cmp q (cell_key key)) as (λ b. eq_by_cmp key_cmp q (cell_key key) ≡ b → cond b (Some new) (get held q) ≡ Some cell → IsRowCell number q cell) [
      | true ↦ λ same here.
          let own : new ≡ cell = cc in
          let number_is : cell.entry ≡ number = ap (λ c. c.entry) (sym own) in
          record { row_key = key; is_key = is; under = same_key q (cell_key key) same; some = omega (arith, number_is, some); most = omega (arith, number_is) }
      | false ↦ λ _ there. all q cell there
    ] refl (sym (get-insert keys_total held (cell_key key) new q) ∙ found)

touch-all-stands : (number : ℕ) (writes : WriteList) (held : Held) → 1 ≤ number → AreKeys writes → AreRowCells number held → AreRowCells number (touch_all number writes held)
touch-all-stands number [] held some keys all = all
touch-all-stands number (write ∷ writes) held some keys all =
    touch-all-stands number writes (touch number held write) some keys.1 (touch-stands number held write.0 write.1 some keys.0 all)

more-stands : (less more : ℕ) (held : Held) → less ≤ more → AreRowCells less held → AreRowCells more held
more-stands less more held up all q cell found =
    let stands = all q cell found in
    record { row_key = stands.row_key; is_key = stands.is_key; under = stands.under; some = stands.some; most = omega (arith, stands.most, up) }

stands-from : (limits : Limits) (before rest : History) (held : Held) → LegalAfter limits before rest → AreRowCells (length before) held
    → AreRowCells (length (before ++ rest)) (fold (held_after_entry limits) held rest)
stands-from limits before [] held legal all = subst (λ h. AreRowCells (length h) held) (sym (append-nil before)) all
stands-from limits before (e ∷ rest) held legal all =
    let number = next-seq limits before e legal.0 in
    let count : length (before ++ e ∷ []) ≡ length before + 1 = omega (arith, length-append before (e ∷ [])) in
    let same : e.seq ≡ length (before ++ e ∷ []) = omega (arith, number, count) in
    let up = more-stands (length before) e.seq held (omega (arith, number)) all in
    let now = touch-all-stands e.seq (entry_writes limits (rows held) e) held (omega (arith, number)) (entry-keys limits (rows held) e) up in
    subst (λ h. AreRowCells (length h) (fold (held_after_entry limits) (held_after_entry limits held e) rest)) (append_assoc before (e ∷ []) rest)
    (stands-from limits (before ++ e ∷ []) rest (held_after_entry limits held e) legal.1 (subst (λ n. AreRowCells n (held_after_entry limits held e)) same now))

-- after a legal history this holds for all cells
pub held-stands : (limits : Limits) (history : History) → Legal (office_of limits history) → AreRowCells (length history) (held_after limits history)
unfolding Legal held_after
held-stands limits history legal = stands-from limits [] history empty legal (λ q cell found. absurd (some_apart cell (sym found ∙ get-empty key_cmp q)))
