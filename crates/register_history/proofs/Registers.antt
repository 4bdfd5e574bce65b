-- The register after a history is sound and has no more records than the limit, and what an upload writes may be put.
use Rattle.std.proofs.Common.{◌≡◌, ℕ, ◌+◌, ◌<◌, ◌≤◌, List, [], ◌∷◌, map, fold, Bool, true, false, ◌&&◌, cond, nat_le, nat_lt, ◌==◌, length, Option, Some, None, is_some, is_none, find, option_map, Result, Ok, Err, MatchResult, refl, sym, ◌∙◌, subst, arith, rules}
use Rattle.std.specs.List.{Contains}
use Rattle.std.specs.Option.{option_to_list}
use Rattle.std.specs.FinMap.{get-empty, len-empty, len-insert}
use Rattle.std.specs.Cmp.{IsTotalOrder}
use Rattle.std.proofs.lemmas.Bool.Decides.{nat_tests}
use Rattle.std.proofs.lemmas.Cmp.{lists_total, nat_list_cmp_total}
use Rattle.lei_values.specs.declared.entry.KeptEntry.{KeptEntry}
use Rattle.serde_json.specs.Data.{Data}
use Rattle.std.proofs.lemmas.Bool.{ltb-false}
use Rattle.upload_format.specs.Bodies as bodies
use Rattle.upload_format.specs.Bodies.{of_items, of_value, upload, value_of}
use Rattle.register_words.specs.declared.malformed.Malformed.{Malformed}
use Rattle.register_words.specs.declared.malformed.Malformed.TheVariants.{NoItems, TooManyItems}
use Rattle.lei_records.specs.Cells.{lei_in, rec_cell}
use Rattle.item_fields.specs.Items.{failed_check, ready, readied_as}
use Rattle.lei_records.specs.Relations.{end_in, is_active_of}
use Rattle.item_fields.specs.declared.fields.Kind.{Kind}
use Rattle.lei_shapes.specs.declared.lists.RelationType.{RelationType}
use Rattle.lei_records.specs.Rows.{Row}
use Rattle.lei_records.specs.Tables.{Table, key_cmp, record_key, put, put_all, put_write, row_at, row_key, active_of, relations_of, record_count, IsSoundTable}
use Rattle.lei_records.specs.declared.item.Item.{Item}
use Rattle.item_fields.specs.declared.item.RawItem.{RawItem}
use Rattle.lei_records.specs.declared.item.Readied.{Readied}
use Rattle.lei_records.specs.declared.view.CellKey.{CellKey}
use Rattle.item_fields.proofs.RowLemmas.{IsRowOfKind-row_of}
use Rattle.lei_records.specs.Checks.{FailedCheck, first_failing}
use Rattle.lei_records.specs.Parents.{parent_type, parents_of}
use Rattle.relation_rules.specs.Parents.{ExceptionsExcludeParents, ParentChainsEnd}
use Rattle.authority_rules.proofs.MapLemmas.{find-values}
use Rattle.successor_rules.specs.Chains.{EndsIn}
use Rattle.register_judge.specs.Checks.{earlier_checks, last_checks, record_checks}
use Rattle.register_judge.specs.declared.sitting.Sitting.{Sitting}
use Rattle.register_judge.specs.Taking.{Taken, take, in_front, is_new_record, verdict_of, item_after, writes_of, item_checks, HasRow, HaveRows}
use Rattle.register_judge.specs.declared.outcome.JudgeStop.{JudgeStop}
use Rattle.register_judge.specs.declared.outcome.Outcome.{Outcome}
use Rattle.register_judge.proofs.ParentLemmas.{take-apart, take-parents}
use Rattle.register_judge.proofs.TakingLemmas.{take-sound}
use Rattle.register_table.specs.Held.{no_rows}
use Rattle.register_table.specs.Undos.{AreOwn, IsOwn, StaysKept}
use Rattle.register_words.specs.declared.limits.Limits.{Limits}
use Rattle.upload_ledger.specs.History.{History}
use Rattle.register_history.specs.Register.{after, after_entry, entry_items, entry_sitting, readied_items, take_items}
use Rattle.register_history.proofs.Passing.{passing, passing_behind}
use Rattle.lei_records.specs.RuleNumbers.{rules_of}
use Rattle.lei_records.specs.declared.rules.Rules.{Rules}

keys_total : IsTotalOrder key_cmp
keys_total = lists_total nat_list_cmp_total

-- ---- items have rows

readied_as-rows : (rules : Rules) (kind : Kind) (pairs : List (List ℕ × List ℕ)) (failed : Option FailedCheck) (items : List Readied) → failed_check rules kind pairs ≡ failed → HaveRows items
    → HaveRows (readied_as kind pairs failed ∷ items)
readied_as-rows rules Kind.Record pairs None items passes rows = (IsRowOfKind-row_of rules Kind.Record pairs passes, rows)
readied_as-rows rules Kind.Relation pairs None items passes rows = (IsRowOfKind-row_of rules Kind.Relation pairs passes, rows)
readied_as-rows rules Kind.Exception pairs None items passes rows = (IsRowOfKind-row_of rules Kind.Exception pairs passes, rows)
readied_as-rows rules kind pairs (Some check) items fails rows = rows

pub ready-rows : (rules : Rules) (raws : List RawItem) → HaveRows (map (ready rules) raws)
ready-rows rules [] = tt
ready-rows rules (RawItem.Record pairs ∷ raws) = readied_as-rows rules Kind.Record pairs (failed_check rules Kind.Record pairs) (map (ready rules) raws) refl (ready-rows rules raws)
ready-rows rules (RawItem.Relation pairs ∷ raws) = readied_as-rows rules Kind.Relation pairs (failed_check rules Kind.Relation pairs) (map (ready rules) raws) refl (ready-rows rules raws)
ready-rows rules (RawItem.Exception pairs ∷ raws) = readied_as-rows rules Kind.Exception pairs (failed_check rules Kind.Exception pairs) (map (ready rules) raws) refl (ready-rows rules raws)

pub read-rows : (rules : Rules) (read : Result (List RawItem) Malformed) → HaveRows (readied_items rules read)
read-rows rules (Ok raws) = ready-rows rules raws
read-rows rules (Err fault) = tt

-- ---- an accepted item

-- the table after what it writes
abbrev with_item : Table → Item → Table
with_item table item = put_write table (row_key item, item_after item)

-- is sound
item-sound : (table : Table) (sitting : Sitting) (item : Item) → IsSoundTable table → HasRow item
    → first_failing (item_checks table sitting item) ≡ None → IsSoundTable (with_item table item)
item-sound table sitting item sound row passes =
    let P : Option FailedCheck → Type 0 = λ failed. IsSoundTable (put_all (writes_of (verdict_of failed) (Readied.Good item)) table) in
    subst P passes (take-sound table sitting (Readied.Good item ∷ []) sound (row, tt))

-- it is written under its own key
item-own : (item : Item) → IsOwn (row_key item, item_after item)
item-own (Item.Record row) = (refl, refl)
item-own (Item.Relation row) = (refl, refl)
item-own (Item.Exception (row, true)) = tt
item-own (Item.Exception (row, false)) = (refl, refl)

-- a new one is accepted only if there is room
fits_with : (held : Option Row) (count limit next : ℕ) → count ≤ limit → next ≡ cond (is_some held) count (count + 1) → (is_none (option_map rec_cell held) && nat_le limit count) ≡ false → next ≤ limit
fits_with None count limit next fits is room = let below : count < limit = grind (arith, nat_tests) in omega arith
fits_with (Some row) count limit next fits is room = omega arith

put-fits : (table : Table) (sitting : Sitting) (item : Row) → record_count table ≤ sitting.limit → first_failing (record_checks table sitting item) ≡ None
    → record_count (put table (Item.Record item)) ≤ sitting.limit
put-fits table sitting item fits passes =
    let from_c20 = passing_behind (earlier_checks table sitting item) (last_checks table sitting item)
    (passing (record_checks table sitting item) passes) in
    fits_with (row_at table (lei_in item)) (record_count table) sitting.limit (record_count (put table (Item.Record item))) fits (len-insert keys_total table.records (record_key (lei_in item)) item) from_c20.first

-- a relationship and an exception leave the number of records unchanged
item-fits : (table : Table) (sitting : Sitting) (item : Item) → record_count table ≤ sitting.limit
    → first_failing (item_checks table sitting item) ≡ None → record_count (with_item table item) ≤ sitting.limit
item-fits table sitting (Item.Record row) fits passes = put-fits table sitting row fits passes
item-fits table sitting (Item.Relation row) fits passes = fits
item-fits table sitting (Item.Exception (row, true)) fits passes = fits
item-fits table sitting (Item.Exception (row, false)) fits passes = fits

-- ---- the items of an upload

-- what they write may be put, and the table has no more records than the limit
pub record MayPut (table : Table) (limit : ℕ) (taken : Taken) : Type 0 where
  pub own : AreOwn taken.writes
  pub kept : limit ≤ 4294967295 → StaysKept taken.writes table
  pub fits : record_count taken.table ≤ limit

-- the item and those after it, by whether this check of the item failed
abbrev with_first : Table → Sitting → Item → List Readied → Option FailedCheck → Taken
with_first table sitting item items failed =
    let writes = writes_of (verdict_of failed) (Readied.Good item) in
    in_front (verdict_of failed) writes (is_new_record table sitting (Readied.Good item)) (take (put_all writes table) sitting items)

pub may_put : (table : Table) (sitting : Sitting) (items : List Readied) → IsSoundTable table → record_count table ≤ sitting.limit → HaveRows items
    → MayPut table sitting.limit (take table sitting items)
may_put table sitting [] sound fits rows = record { own = tt; kept = λ bound. tt; fits = fits }
may_put table sitting (Readied.Bad check ∷ items) sound fits rows =
    let rest = may_put table sitting items sound fits rows in
    record { own = rest.own; kept = rest.kept; fits = rest.fits }
may_put table sitting (Readied.Good item ∷ items) sound fits rows =
    elim (first_failing (item_checks table sitting item)) as (λ failed. first_failing (item_checks table sitting item) ≡ failed
    → MayPut table sitting.limit (with_first table sitting item items failed)) [
      | None ↦ λ passes.
          let sound_with = item-sound table sitting item sound rows.0 passes in
          let fits_now = item-fits table sitting item fits passes in
          let rest = may_put (with_item table item) sitting items sound_with fits_now rows.1 in
          record {
            own = (item-own item, rest.own);
            kept = λ bound. (record { sound = sound_with; count = omega (arith, bound, fits_now) }, rest.kept bound);
            fits = rest.fits;
          }
      | Some check ↦ λ fails.
          let rest = may_put table sitting items sound fits rows.1 in
          record { own = rest.own; kept = rest.kept; fits = rest.fits }
    ] refl

-- ---- the table after a history

pub record IsFit (limit : ℕ) (table : Table) : Type 0 where
  pub sound : IsSoundTable table
  pub fits : record_count table ≤ limit
  pub parents : ParentChainsEnd table
  pub apart : ExceptionsExcludeParents table

pub entry-fit : (limits : Limits) (table : Table) (e : KeptEntry) → IsFit limits.records table → IsFit limits.records (after_entry limits table e)
entry-fit limits table e fit =
    let rows = read-rows (rules_of e.rules) (upload e.body) in
    elim (e.kind == 2) as (λ b. IsFit limits.records (cond b (take_items limits table e (entry_items e)).table table)) [
      | true ↦ record {
        sound = take-sound table (entry_sitting limits e) (entry_items e) fit.sound rows;
        fits = (may_put table (entry_sitting limits e) (entry_items e) fit.sound fit.fits rows).fits;
        parents = take-parents table (entry_sitting limits e) (entry_items e) fit.sound fit.parents rows;
        apart = take-apart table (entry_sitting limits e) (entry_items e) fit.sound fit.apart rows;
      }
      | false ↦ fit
    ]

entries-fit : (limits : Limits) (table : Table) (history : History) → IsFit limits.records table → IsFit limits.records (fold (after_entry limits) table history)
entries-fit limits table [] fit = fit
entries-fit limits table (e ∷ history) fit = entries-fit limits (after_entry limits table e) history (entry-fit limits table e fit)

is_some-none : {X : Type 0} (x : X) (found : Option X) → found ≡ None → found ≡ Some x → ⊥
is_some-none x found none some = cc

-- if there are no rows, nothing is active
none-active : (start : List ℕ) (kind : RelationType) → active_of no_rows start kind ≡ None
none-active start kind = of_found (find (is_active_of start kind) (relations_of no_rows)) refl where
  of_found : (found : Option Row) → find (is_active_of start kind) (relations_of no_rows) ≡ found → option_map end_in found ≡ None
  of_found None is = refl
  of_found (Some row) is =
      let hit = find-values keys_total no_rows.relations (is_active_of start kind) row is in
      absurd (is_some-none row _ (get-empty key_cmp hit.0) hit.1)

none-above : (lei next : List ℕ) → Contains (parents_of no_rows lei) next → EndsIn 0 (parents_of no_rows) next
none-above lei next at =
    nothing next (subst (λ parent. Contains (option_to_list parent) next) (none-active lei RelationType.IsDirectlyConsolidatedBy) at) where
      nothing : (next : List ℕ) → Contains [] next → ⊥
      nothing next at = search rules

pub none-fit : (limit : ℕ) → IsFit limit no_rows
none-fit limit = record {
  sound = record {
    keyed = λ key row at. absurd (is_some-none row _ (get-empty key_cmp key) at);
    holders = λ authority id a b first second of_a of_b by_a by_b. absurd (is_some-none first _ (get-empty key_cmp (record_key a)) of_a);
    rows = λ key row at. absurd (is_some-none row _ (get-empty key_cmp key) at);
    relations_keyed = λ key row at. absurd (is_some-none row _ (get-empty key_cmp key) at);
    relation_rows = λ key row at. absurd (is_some-none row _ (get-empty key_cmp key) at);
    actives = λ start kind a b first second of_a of_b by_a by_b. absurd (is_some-none first _ (get-empty key_cmp a) of_a);
    exceptions_keyed = λ key row at. absurd (is_some-none row _ (get-empty key_cmp key) at);
    exception_rows = λ key row at. absurd (is_some-none row _ (get-empty key_cmp key) at);
  };
  fits = let none = len-empty key_cmp Row in omega (arith, none);
  parents = record { ends = λ lei. (1, none-above lei) };
  apart = λ lei category stands. none-active lei (parent_type category);
}

pub after-fit : (limits : Limits) (history : History) → IsFit limits.records (after limits history)
unfolding after
after-fit limits history = entries-fit limits no_rows history (none-fit limits.records)

-- ---- judging over a table

-- no cell of a table is missing
pub no_cell_wanted : (P : Outcome → Type 0) (result : Result Outcome JudgeStop) (key : CellKey) → MatchResult result P (λ stop. stop ≡ JudgeStop.NoMemory) → result ≡ Err (JudgeStop.NeedCell key) → ⊥
no_cell_wanted P (Ok outcome) key takes is = cc
no_cell_wanted P (Err stop) key takes is =
    let same : stop ≡ JudgeStop.NeedCell key = cc in
    let clash : JudgeStop.NoMemory ≡ JudgeStop.NeedCell key = sym takes ∙ same in
    cc

-- ---- an upload has at most 5,000 items

if_countable-within : (none many : Bool) (raws items : List RawItem) → nat_lt 5000 (length raws) ≡ many → cond none (Err NoItems) (cond many (Err TooManyItems) (Ok raws)) ≡ Ok items → length items ≤ 5000
if_countable-within true many raws items is counted = cc
if_countable-within false true raws items is counted = cc
if_countable-within false false raws items is counted =
    let same : raws ≡ items = cc in
    let L : List RawItem → Type 0 = λ l. length l ≤ 5000 in
    subst L same (ltb-false 5000 (length raws) is)

items-within : (found : Option (List RawItem)) (items : List RawItem) → of_items found ≡ Ok items → length items ≤ 5000
items-within None items is = cc
items-within (Some raws) items is = if_countable-within (length raws == 0) (nat_lt 5000 (length raws)) raws items refl is

value-within : (value : Option Data) (items : List RawItem) → of_value value ≡ Ok items → length items ≤ 5000
value-within None items is = cc
value-within (Some value) items is = items-within (bodies.upload_items value) items is

pub upload-within : (body : List ℕ) (items : List RawItem) → upload body ≡ Ok items → length items ≤ 5000
unfolding upload
upload-within body items is = value-within (value_of body) items is
