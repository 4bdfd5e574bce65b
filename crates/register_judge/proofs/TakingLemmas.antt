-- The judgement of items over the cells of a sound table is what the items do to that table.
use Rattle.std.specs.Prelude.{◌≡◌, ℕ, ◌+◌, ◌==◌, length, List, [], ◌∷◌, ◌++◌, Bool, true, false, not, ◌&&◌, ◌||◌, cond, if◌then◌else◌, nat_le, Option, Some, None, is_some, is_none, option_map, Result, Ok, Err}
use Rattle.std.specs.FinMap.{len-insert}
use Rattle.std.specs.List.{list_any}
use Rattle.std.specs.Option.{option_or}
use Rattle.std.specs.Str.{bytes_eq}
use Rattle.std.proofs.Common.{refl, sym, ap, subst, ◌∙◌, add-zero, arith}
use Rattle.std.proofs.Math.Bool.{and-false, and-true}
use Rattle.std.proofs.lemmas.Bool.Decides.{nat_tests}
use Rattle.lei_records.specs.Checks.{FailedCheck}
use Rattle.lei_records.specs.declared.check.Detail.{Detail}
use Rattle.lei_records.specs.declared.item.Item.{Item}
use Rattle.lei_records.specs.declared.item.Readied.{Readied}
use Rattle.lei_records.specs.declared.view.CellKey.{CellKey}
use Rattle.lei_records.specs.declared.view.RecCell.{RecCell}
use Rattle.lei_records.specs.declared.view.RowKey.{RowKey}
use Rattle.lei_records.specs.declared.view.Seen.{Seen}
use Rattle.lei_records.specs.Cells.{Cells, lei_in, successor_in, successors_in, rec_cell, is_live, akey, holds}
use Rattle.lei_records.specs.Checks.{Finding, code_detail, fails_if, first_failing}
use Rattle.lei_records.specs.Rows.{Row}
use Rattle.lei_records.specs.Tables.{Table, record_key, put, put_write, put_all, row_at, record_of, record_count, holder_of, other_holder, seen, cells_of, row_key, IsKeyed, AuthorityKeysAreUnique, AreRelationsKeyed, HasActives, IsSoundTable}
use Rattle.lei_records.proofs.OptionLemmas.{none_where}
use Rattle.lei_records.proofs.PassLemmas.{all_pass, first_failing-append}
use Rattle.authority_rules.specs.Taken.{taken, IsFree}
use Rattle.authority_rules.proofs.HolderLemmas.{keys_total, some_apart, taken-cells}
use Rattle.authority_rules.proofs.SoundLemmas.{IsSoundTable-put_exception}
use Rattle.authority_rules.proofs.PutLemmas.{record_of-put, holder_of-put, IsKeyed-put, AuthorityKeysAreUnique-put, IsSoundTable-put, other_than}
use Rattle.successor_rules.specs.declared.walks.Walked.{Walked}
use Rattle.lei_records.specs.Walks.{successor_of, successors_of}
use Rattle.lei_records.specs.Walks.{is_met, is_long}
use Rattle.successor_rules.specs.Levels.{has_wide_levels, is_back}
use Rattle.successor_rules.specs.Successors.{walk_by_levels}
use Rattle.successor_rules.proofs.ViewLemmas.{walk_by_levels-over_table}
use Rattle.successor_rules.proofs.WalkLemmas.{walk-over_table}
use Rattle.relation_rules.specs.declared.checked.Checked.{Checked}
use Rattle.relation_rules.specs.Checking.{check_walked, checked_of, on_seen, unless_failed}
use Rattle.relation_rules.specs.Checks.{c37, other_end, exception_checks, relation_checks}
use Rattle.relation_rules.proofs.ActiveLemmas.{HasActives-put, IsFitting}
use Rattle.relation_rules.proofs.CheckLemmas.{chained, check_exception-cells, check_relation-cells, on_held, seen_other}
use Rattle.relation_rules.proofs.PutLemmas.{AreRelationsKeyed-put, IsSoundTable-put_relation, fitting}
use Rattle.register_judge.specs.declared.judge.ItemOutcome.{ItemOutcome}
use Rattle.register_judge.specs.declared.outcome.JudgeStop.{JudgeStop}
use Rattle.register_judge.specs.declared.outcome.Outcome.{Outcome}
use Rattle.register_judge.specs.declared.outcome.Verdict.{Verdict}
use Rattle.lei_records.specs.declared.rules.Rules.{Rules}
use Rattle.register_judge.specs.declared.sitting.Sitting.{Sitting}
use Rattle.register_judge.specs.Checks.{own_checks, held_checks, c16, c16_each, c19, first_checks, level_checks, successor_checks, earlier_checks, last_checks, record_checks}
use Rattle.register_judge.specs.Judging.{acceptance, check_with_held, check_key, check_named, check_record, check_each, check_first, check_levels, check_successors, value_seen, key_cell, judge_late, judge_record, item_outcome_by, judge_item, put_writes, cells_after, count_after, records_added, Judgement, before, judge_items}
use Rattle.register_judge.specs.Outcomes.{Judges, TakesItems}
use Rattle.register_judge.specs.Overlays.{put_record}
use Rattle.register_judge.specs.Sittings.{is_at_limit, over_table}
use Rattle.register_judge.specs.Taking.{verdict_of, item_checks, verdict, item_after, writes_of, is_new_record, Taken, take, HasRow, HaveRows}
use Rattle.register_judge.proofs.RelationLemmas.{cells-put_exception, cells-put_relation}

-- ---- a record on a table, by the table's cells

-- C19 is made only for a live record
key_by_table : (table : Table) (item : Row) → IsKeyed table → AuthorityKeysAreUnique table
    → check_key (cells_of table) item ≡ checked_of (first_failing (c19 (other_holder table item) item ∷ []))
key_by_table table item keyed holders =
    let other = other_holder table item in
    let next : Option (List ℕ) → Checked = λ found. checked_of (first_failing (c19 found item ∷ [])) in
    elim (is_live item) as (λ b. is_live item ≡ b → cond b (on_seen (taken (cells_of table) item) (key_cell (akey item)) next) Checked.Passes ≡ next other) [
      | true ↦ λ _.
          ap (λ answer. on_seen answer (key_cell (akey item)) next) (taken-cells table item keyed holders) ∙ on_held other (key_cell (akey item)) next
      | false ↦ λ dead.
          sym (ap (λ live. checked_of (cond (live && is_some other) (Some (record { number = 19; detail = code_detail other })) None)) dead)
    ] refl

-- C16 to C18 are made one after another, and then those after them
in_turn : (found : Option RecCell) (met long : Bool) (behind : List Finding)
    → unless_failed (first_failing (c16 found ∷ []))
    (check_walked 17 18 (if met then Walked.Meets else if long then Walked.Long else Walked.Ends) (checked_of (first_failing behind)))
    ≡ checked_of (first_failing (c16 found ∷ fails_if met 17 Detail.None ∷ fails_if long 18 Detail.None ∷ behind))
in_turn None met long behind = refl
in_turn (Some cell) true long behind = refl
in_turn (Some cell) false true behind = refl
in_turn (Some cell) false false behind = refl

first_by_table : (table : Table) (item : Row) (successor : Option (List ℕ)) → IsKeyed table → AuthorityKeysAreUnique table
    → check_first (cells_of table) item successor
    ≡ checked_of (first_failing (first_checks table item successor ++ c19 (other_holder table item) item ∷ []))
first_by_table table item None keyed holders = key_by_table table item keyed holders
first_by_table table item (Some successor) keyed holders =
    let found = record_of table successor in
    let walks = walk-over_table table (lei_in item) successor in
    let behind = key_by_table table item keyed holders in
    on_held found (CellKey.Rec successor) (check_named (cells_of table) item successor)
    ∙ ((λ i. unless_failed (first_failing (c16 found ∷ [])) (check_walked 17 18 (walks i) (behind i)))
    ∙ in_turn found (is_met (successor_of table) (lei_in item) successor) (is_long (successor_of table) successor) (c19 (other_holder table item) item ∷ []))

-- each successor is looked up, and then `next` follows
each_by_table : (table : Table) (successors : List (List ℕ)) (next : Checked)
    → check_each (cells_of table) successors next ≡ unless_failed (first_failing (c16_each table successors ∷ [])) next
each_by_table table [] next = refl
each_by_table table (successor ∷ successors) next =
    let found = record_of table successor in
    on_held found (CellKey.Rec successor) (λ f. unless_failed (first_failing (c16 f ∷ [])) (check_each (cells_of table) successors next))
    ∙ (ap (unless_failed (first_failing (c16 found ∷ []))) (each_by_table table successors next)
    ∙ one_or_more found (list_any (λ lei. is_none (record_of table lei)) successors) next)
  where
    one_or_more : (found : Option RecCell) (later : Bool) (next : Checked)
        → unless_failed (first_failing (c16 found ∷ [])) (unless_failed (first_failing (fails_if later 16 Detail.None ∷ [])) next)
        ≡ unless_failed (first_failing (fails_if (is_none found || later) 16 Detail.None ∷ [])) next
    one_or_more None later next = refl
    one_or_more (Some cell) true next = refl
    one_or_more (Some cell) false next = refl

-- C16 to C18 by the later rules are made one after another, and then those after them
by_levels_in_turn : (none wide back : Bool) (behind : List Finding)
    → unless_failed (first_failing (fails_if none 16 Detail.None ∷ []))
    (check_walked 17 18 (if wide then Walked.Long else if back then Walked.Meets else Walked.Ends) (checked_of (first_failing behind)))
    ≡ checked_of (first_failing (fails_if none 16 Detail.None ∷ fails_if (not wide && back) 17 Detail.None ∷ fails_if wide 18 Detail.None ∷ behind))
by_levels_in_turn true wide back behind = refl
by_levels_in_turn false true back behind = refl
by_levels_in_turn false false true behind = refl
by_levels_in_turn false false false behind = refl

-- the checks of an item with successors by the later rules
pub levels_of : (cells : Cells) (item : Row) (successors : List (List ℕ)) → (length successors == 0) ≡ false
    → check_levels cells item successors ≡ check_each cells successors (check_walked 17 18 (walk_by_levels cells (lei_in item) successors) (check_key cells item))
levels_of cells item [] some = cc
levels_of cells item (successor ∷ successors) some = refl

levels_by_table : (table : Table) (item : Row) (successors : List (List ℕ)) → IsKeyed table → AuthorityKeysAreUnique table
    → check_levels (cells_of table) item successors
    ≡ checked_of (first_failing (level_checks table item successors ++ c19 (other_holder table item) item ∷ []))
levels_by_table table item [] keyed holders = key_by_table table item keyed holders
levels_by_table table item (successor ∷ successors) keyed holders =
    let all = successor ∷ successors in
    let own = lei_in item in
    let behind = c19 (other_holder table item) item ∷ [] in
    let spreads = walk_by_levels-over_table table own all in
    let key = key_by_table table item keyed holders in
    each_by_table table all (check_walked 17 18 (walk_by_levels (cells_of table) own all) (check_key (cells_of table) item))
    ∙ ((λ i. unless_failed (first_failing (c16_each table all ∷ [])) (check_walked 17 18 (spreads i) (key i)))
    ∙ by_levels_in_turn (list_any (λ lei. is_none (record_of table lei)) all) (has_wide_levels (successors_of table) own all) (is_back (successors_of table) own all) behind)

successors_by_table : (rules : Rules) (table : Table) (item : Row) → IsKeyed table → AuthorityKeysAreUnique table
    → check_successors rules (cells_of table) item
    ≡ checked_of (first_failing (successor_checks rules table item ++ c19 (other_holder table item) item ∷ []))
successors_by_table Rules.First table item = first_by_table table item (successor_in item)
successors_by_table Rules.Second table item = levels_by_table table item (successors_in item)
successors_by_table Rules.Third table item = levels_by_table table item (successors_in item)

-- over the cells of a table, the result is the first check before C20 that fails on the table
record_by_cells : (table : Table) (sitting : Sitting) (item : Row) → IsKeyed table → AuthorityKeysAreUnique table
    → check_record (cells_of table) sitting item ≡ checked_of (first_failing (earlier_checks table sitting item))
unfolding check_record
record_by_cells table sitting item keyed holders =
    let held = record_of table (lei_in item) in
    let own = own_checks sitting item in
    let of_held = held_checks held sitting item in
    let behind = successor_checks sitting.rules table item ++ c19 (other_holder table item) item ∷ [] in
    ap (unless_failed (first_failing own))
    (on_held held (CellKey.Rec (lei_in item)) (check_with_held (cells_of table) sitting item)
    ∙ (ap (unless_failed (first_failing of_held)) (successors_by_table sitting.rules table item keyed holders) ∙ chained of_held behind))
    ∙ chained own (of_held ++ behind)

-- The outcome of an item on a table, in a sitting.
abbrev pub outcome_on : Table → Sitting → Readied → ItemOutcome
outcome_on table sitting item = record { verdict = verdict table sitting item; new = is_new_record table sitting item }

-- The limit of a sitting over a view is on the records that are added, and `count` were added. The limit over the table
-- is also on the `base` records that were there before.
record IsCounted (table : Table) (sitting : Sitting) (limit count : ℕ) : Type 0 where
  base : ℕ
  limit_is : limit ≡ base + sitting.limit
  count_is : record_count table ≡ base + count

-- the records that were added reach their limit if and only if the table is full
same_limit : (base own count limit all : ℕ) → limit ≡ base + own → all ≡ base + count → nat_le own count ≡ nat_le limit all
same_limit base own count limit all limit_is all_is = grind (arith, nat_tests)

at_limit : (table : Table) (sitting : Sitting) (limit count : ℕ) → IsCounted table sitting limit count
    → is_at_limit sitting count ≡ is_at_limit (over_table sitting limit) (record_count table)
at_limit table sitting limit count counted =
    same_limit counted.base sitting.limit count limit (record_count table) counted.limit_is counted.count_is

held_seen : {X : Type 0} (found : Option X) → value_seen (seen found) ≡ found
held_seen None = refl
held_seen (Some x) = refl

-- C20 is made for a record that passes the checks before it
with_room : (earlier room : Option FailedCheck) (none : Bool)
    → item_outcome_by (checked_of earlier) (record { verdict = verdict_of room; new = none })
    ≡ Ok (record { verdict = verdict_of (option_or earlier room); new = none && is_none earlier })
with_room None room none = λ i. Ok (record { verdict = verdict_of room; new = sym (and-true none) i })
with_room (Some check) room none = λ i. Ok (record { verdict = Verdict.Rejected check; new = sym (and-false none) i })

record_by_table : (table : Table) (sitting : Sitting) (limit count : ℕ) (item : Row) → IsKeyed table → AuthorityKeysAreUnique table → IsCounted table sitting limit count
    → judge_record (cells_of table) (is_at_limit sitting count) sitting item ≡ Ok (outcome_on table (over_table sitting limit) (Readied.Good (Item.Record item)))
record_by_table table sitting limit count item keyed holders counted =
    let held = record_of table (lei_in item) in
    let earlier = earlier_checks table sitting item in
    let late = last_checks table (over_table sitting limit) item in
    (λ i. item_outcome_by (record_by_cells table sitting item keyed holders i) (judge_late sitting item (held_seen held i) (at_limit table sitting limit count counted i)))
    ∙ (with_room (first_failing earlier) (first_failing late) (is_none held)
    ∙ (λ i. Ok (record {
      verdict = verdict_of (sym (first_failing-append earlier late) i);
      new = is_none held && is_none (first_failing earlier);
    })))

-- ---- a relationship and an exception on a table

-- the first check that fails is the verdict
by_checks : (failed : Option FailedCheck) → item_outcome_by (checked_of failed) acceptance ≡ Ok (record { verdict = verdict_of failed; new = false })
by_checks None = refl
by_checks (Some check) = refl

-- What a table needs so that its cells give the result of each check: its rows are under their own keys, no two live
-- records have the same authority key, and no two active relationships have the same start and type.
pub record CellsTell (table : Table) : Type 0 where
  pub keyed : IsKeyed table
  pub holders : AuthorityKeysAreUnique table
  pub relations_keyed : AreRelationsKeyed table
  pub actives : HasActives table

item_by_table : (table : Table) (sitting : Sitting) (limit count : ℕ) (item : Readied) → CellsTell table → IsCounted table sitting limit count
    → judge_item (cells_of table) (is_at_limit sitting count) sitting item ≡ Ok (outcome_on table (over_table sitting limit) item)
item_by_table table sitting limit count (Readied.Bad check) told counted = refl
item_by_table table sitting limit count (Readied.Good (Item.Record item)) told counted =
    record_by_table table sitting limit count item told.keyed told.holders counted
item_by_table table sitting limit count (Readied.Good (Item.Relation item)) told counted =
    ap (λ checked. item_outcome_by checked acceptance) (check_relation-cells table sitting.issuer item told.actives) ∙ by_checks (first_failing (relation_checks table sitting.issuer item))
item_by_table table sitting limit count (Readied.Good (Item.Exception item)) told counted =
    ap (λ checked. item_outcome_by checked acceptance) (check_exception-cells table sitting.issuer item) ∙ by_checks (first_failing (exception_checks table sitting.issuer item))

-- ---- the cells and the number of records after an item

seen_cond : {X : Type 0} (b : Bool) (x : X) (o : Option X) → seen (cond b (Some x) o) ≡ cond b (Seen.Held x) (seen o)
seen_cond true x o = refl
seen_cond false x o = refl

-- putting a free record into a table puts it over the table's cells
cells_put : (table : Table) (item : Row) → IsKeyed table → AuthorityKeysAreUnique table → IsFree table item → put_record (cells_of table) item ≡ cells_of (put table (Item.Record item))
cells_put table item keyed holders free = λ i. record (cells_of table) {
  record_cell = λ lei. sym (ap seen (record_of-put table item lei) ∙ seen_cond (bytes_eq lei (lei_in item)) (rec_cell item) (record_of table lei)) i;
  holder = λ authority id. sym (ap seen (holder_of-put table item authority id keyed holders free)
      ∙ (seen_cond (holds authority id item) (lei_in item) (other_than (lei_in item) (holder_of table authority id))
      ∙ ap (cond (holds authority id item) (Seen.Held (lei_in item))) (seen_other (lei_in item) (holder_of table authority id)))) i;
}

-- ---- what an accepted record says about the table

or_none : {X : Type 0} (a b : Option X) → option_or a b ≡ None → (a ≡ None) × (b ≡ None)
or_none None b e = (refl, e)
or_none (Some x) b e = absurd (some_apart x e)

-- all checks pass
abbrev pub Passes : Table → Sitting → Row → Type 0
Passes table sitting item = first_failing (record_checks table sitting item) ≡ None

passed : (table : Table) (sitting : Sitting) (item : Row) → Passes table sitting item
    → (first_failing (earlier_checks table sitting item) ≡ None) × (first_failing (last_checks table sitting item) ≡ None)
passed table sitting item passes =
    or_none _ _ (sym (first_failing-append (earlier_checks table sitting item) (last_checks table sitting item)) ∙ passes)

-- the checks of the successors pass, and so does C19
before_c20 : (table : Table) (sitting : Sitting) (item : Row) → Passes table sitting item
    → (first_failing (successor_checks sitting.rules table item) ≡ None) × (first_failing (c19 (other_holder table item) item ∷ []) ≡ None)
before_c20 table sitting item passes =
    let front = own_checks sitting item ++ held_checks (record_of table (lei_in item)) sitting item in
    let of_successor = successor_checks sitting.rules table item in
    let parts = or_none _ _ (sym (first_failing-append (front ++ of_successor) (c19 (other_holder table item) item ∷ [])) ∙ (passed table sitting item passes).0) in
    ((or_none _ _ (sym (first_failing-append front of_successor) ∙ parts.0)).1, parts.1)

free_if_passes : (table : Table) (sitting : Sitting) (item : Row) → Passes table sitting item → IsFree table item
free_if_passes table sitting item passes =
    none_where (is_live item) (other_holder table item) (all_pass (c19 (other_holder table item) item ∷ []) (before_c20 table sitting item passes).1).first

pub successors_pass : (table : Table) (sitting : Sitting) (item : Row) → Passes table sitting item
    → first_failing (successor_checks sitting.rules table item) ≡ None
successors_pass table sitting item passes = (before_c20 table sitting item passes).0

-- ---- the table and the number of its records after an item

-- after these writes the table's cells are the cells with the writes put, and give the result of each check. The table
-- has this many more records
pub record After (table : Table) (writes : List (RowKey × Option Item)) (added : ℕ) : Type 0 where
  pub told : CellsTell (put_all writes table)
  pub cells : put_writes writes (cells_of table) ≡ cells_of (put_all writes table)
  pub count : record_count (put_all writes table) ≡ record_count table + added

after_none : (table : Table) → CellsTell table → After table [] 0
after_none table told = record { told = told; cells = refl; count = sym (add-zero (record_count table)) }

count_put : (table : Table) (item : Row) → record_count (put table (Item.Record item)) ≡ cond (is_some (row_at table (lei_in item))) (record_count table) (record_count table + 1)
count_put table item = len-insert keys_total table.records (record_key (lei_in item)) item

-- an accepted record adds one if and only if it is new
count_added : (held : Option Row) (count : ℕ) → cond (is_some held) count (count + 1) ≡ count + records_added Verdict.Accepted (is_none (option_map rec_cell held))
count_added None count = refl
count_added (Some row) count = sym (add-zero count)

after_record : (table : Table) (sitting : Sitting) (item : Row) → CellsTell table → Passes table sitting item
    → After table ((RowKey.Rec (lei_in item), Some (Item.Record item)) ∷ []) (records_added Verdict.Accepted (is_new_record table sitting (Readied.Good (Item.Record item))))
after_record table sitting item told passes =
    let both = passed table sitting item passes in
    let free = free_if_passes table sitting item passes in
    let held = record_of table (lei_in item) in
    let new : is_new_record table sitting (Readied.Good (Item.Record item)) ≡ is_none held =
    ap (λ f. is_none held && is_none f) both.0 ∙ and-true (is_none held) in
    record {
      told = record {
        keyed = IsKeyed-put table item told.keyed;
        holders = AuthorityKeysAreUnique-put table item told.keyed told.holders free;
        relations_keyed = told.relations_keyed;
        actives = told.actives;
      };
      cells = cells_put table item told.keyed told.holders free;
      count = count_put table item ∙ (count_added (row_at table (lei_in item)) (record_count table)
          ∙ ap (λ n. record_count table + records_added Verdict.Accepted n) (sym new));
    }

-- an accepted relationship passes C37: no other active one prevents it
pub passed_37 : (table : Table) (issuer : List ℕ) (row : Row) → first_failing (relation_checks table issuer row) ≡ None → (c37 (other_end table row) row).fails ≡ false
passed_37 table issuer row passes = (all_pass (relation_checks table issuer row) passes).others.others.others.others.others.others.others.first

after_relation : (table : Table) (issuer : List ℕ) (row : Row) → CellsTell table → first_failing (relation_checks table issuer row) ≡ None
    → After table ((row_key (Item.Relation row), Some (Item.Relation row)) ∷ []) 0
after_relation table issuer row told passes =
    let fits : IsFitting table row = fitting table row (passed_37 table issuer row passes) in
    record {
      told = record {
        keyed = told.keyed;
        holders = told.holders;
        relations_keyed = AreRelationsKeyed-put table row told.relations_keyed;
        actives = HasActives-put table row told.relations_keyed told.actives fits;
      };
      cells = cells-put_relation table row told.relations_keyed told.actives fits;
      count = sym (add-zero (record_count table));
    }

after_exception : (table : Table) (row : Row) (withdraws : Bool) → CellsTell table
    → After table ((row_key (Item.Exception (row, withdraws)), item_after (Item.Exception (row, withdraws))) ∷ []) 0
after_exception table row true told = record {
  told = record { keyed = told.keyed; holders = told.holders; relations_keyed = told.relations_keyed; actives = told.actives };
  cells = cells-put_exception table row true;
  count = sym (add-zero (record_count table));
}
after_exception table row false told = record {
  told = record { keyed = told.keyed; holders = told.holders; relations_keyed = told.relations_keyed; actives = told.actives };
  cells = cells-put_exception table row false;
  count = sym (add-zero (record_count table));
}

by_verdict : (table : Table) (sitting : Sitting) (item : Item) (failed : Option FailedCheck) → CellsTell table
    → first_failing (item_checks table sitting item) ≡ failed
    → After table (writes_of (verdict_of failed) (Readied.Good item)) (records_added (verdict_of failed) (is_new_record table sitting (Readied.Good item)))
by_verdict table sitting item (Some check) told is = after_none table told
by_verdict table sitting (Item.Record row) None told is = after_record table sitting row told is
by_verdict table sitting (Item.Relation row) None told is = after_relation table sitting.issuer row told is
by_verdict table sitting (Item.Exception item) None told is = after_exception table item.0 item.1 told

pub after_item : (table : Table) (sitting : Sitting) (item : Readied) → CellsTell table
    → After table (writes_of (verdict table sitting item) item) (records_added (verdict table sitting item) (is_new_record table sitting item))
after_item table sitting (Readied.Bad check) told = after_none table told
after_item table sitting (Readied.Good item) told = by_verdict table sitting item (first_failing (item_checks table sitting item)) told refl

-- the records that an item adds are counted
counted_after : (base count all added next : ℕ) → all ≡ base + count → next ≡ all + added → next ≡ base + (count + added)
counted_after base count all added next all_is next_is = omega arith

-- ---- all items

abbrev pub shown : Taken → Judgement
shown taken = record { verdicts = taken.verdicts; writes = taken.writes; new_records = taken.new_records }

-- the judgement over the cells of a table is what the items do to the table
told-taken : (table : Table) (sitting : Sitting) (limit count : ℕ) (items : List Readied) → CellsTell table → IsCounted table sitting limit count
    → judge_items (cells_of table) count sitting items ≡ Ok (shown (take table (over_table sitting limit) items))
unfolding judge_items
told-taken table sitting limit count [] told counted = refl
told-taken table sitting limit count (item ∷ items) told counted =
    let given = verdict table (over_table sitting limit) item in
    let added = records_added given (is_new_record table (over_table sitting limit) item) in
    let next = after_item table (over_table sitting limit) item told in
    let rest : Result ItemOutcome CellKey → Result Judgement CellKey =
    λ j. before j item (judge_items (cells_after j item (cells_of table)) (count_after j count) sitting items) in
    ap rest (item_by_table table sitting limit count item told counted)
    ∙ ap (before (Ok (outcome_on table (over_table sitting limit) item)) item)
    (ap (λ cells. judge_items cells (count + added) sitting items) next.cells
    ∙ told-taken (put_all (writes_of given item) table) sitting limit (count + added) items next.told (record {
      base = counted.base;
      limit_is = counted.limit_is;
      count_is = counted_after counted.base count (record_count table) added (record_count (put_all (writes_of given item) table)) counted.count_is next.count;
    }))

pub cells-tell : (table : Table) → IsSoundTable table → CellsTell table
cells-tell table sound = record { keyed = sound.keyed; holders = sound.holders; relations_keyed = sound.relations_keyed; actives = sound.actives }

pub judged-taken : (table : Table) (sitting : Sitting) (items : List Readied) → IsSoundTable table
    → judge_items (cells_of table) 0 sitting items ≡ Ok (shown (take table (over_table sitting (record_count table + sitting.limit)) items))
judged-taken table sitting items sound =
    told-taken table sitting (record_count table + sitting.limit) 0 items (cells-tell table sound)
    (record { base = record_count table; limit_is = refl; count_is = sym (add-zero (record_count table)) })

-- ---- the table after the items

put_all-append : (first second : List (RowKey × Option Item)) (table : Table) → put_all (first ++ second) table ≡ put_all second (put_all first table)
put_all-append [] second table = refl
put_all-append (write ∷ writes) second table = put_all-append writes second (put_write table write)

-- the table after the items is the table with their writes put
pub take-written : (table : Table) (sitting : Sitting) (items : List Readied)
    → (take table sitting items).table ≡ put_all (take table sitting items).writes table
take-written table sitting [] = refl
take-written table sitting (item ∷ items) =
    let writes = writes_of (verdict table sitting item) item in
    take-written (put_all writes table) sitting items
    ∙ sym (put_all-append writes (take (put_all writes table) sitting items).writes table)

-- an accepted item leaves a sound table sound
accepted_sound : (table : Table) (sitting : Sitting) (item : Item) → IsSoundTable table → HasRow item
    → first_failing (item_checks table sitting item) ≡ None → IsSoundTable (put table item)
accepted_sound table sitting (Item.Record row) sound is_row passes = IsSoundTable-put table row sound is_row (free_if_passes table sitting row passes)
accepted_sound table sitting (Item.Relation row) sound is_row passes = IsSoundTable-put_relation table row sound is_row (passed_37 table sitting.issuer row passes)
accepted_sound table sitting (Item.Exception item) sound is_row passes = IsSoundTable-put_exception table item.0 item.1 sound is_row

-- what an accepted item writes has the same effect as putting it
pub put-written : (P : Table → Type 0) (table : Table) (item : Item) → P (put table item) → P (put_write table (row_key item, item_after item))
put-written P table (Item.Record row) is = is
put-written P table (Item.Relation row) is = is
put-written P table (Item.Exception (row, true)) is = is
put-written P table (Item.Exception (row, false)) is = is

item_sound : (table : Table) (sitting : Sitting) (item : Item) (failed : Option FailedCheck) → IsSoundTable table → HasRow item
    → first_failing (item_checks table sitting item) ≡ failed
    → IsSoundTable (put_all (writes_of (verdict_of failed) (Readied.Good item)) table)
item_sound table sitting item (Some check) sound is_row is = sound
item_sound table sitting item None sound is_row is = put-written IsSoundTable table item (accepted_sound table sitting item sound is_row is)

-- the table after the first of some items is sound
pub next_sound : (table : Table) (sitting : Sitting) (item : Item) → IsSoundTable table → HasRow item
    → IsSoundTable (put_all (writes_of (verdict table sitting (Readied.Good item)) (Readied.Good item)) table)
next_sound table sitting item sound is_row =
    item_sound table sitting item (first_failing (item_checks table sitting item)) sound is_row refl

-- the items leave a sound table sound
pub take-sound : (table : Table) (sitting : Sitting) (items : List Readied) → IsSoundTable table → HaveRows items
    → IsSoundTable (take table sitting items).table
take-sound table sitting [] sound rows = sound
take-sound table sitting (Readied.Bad check ∷ items) sound rows = take-sound table sitting items sound rows
take-sound table sitting (Readied.Good item ∷ items) sound rows =
    let given = verdict table sitting (Readied.Good item) in
    take-sound (put_all (writes_of given (Readied.Good item)) table) sitting items (next_sound table sitting item sound rows.0) rows.1

-- the judgement over a table's cells is the result of taking the items, and no cell is lacking
pub judges-takes : (result : Result Outcome JudgeStop) (judged : Result Judgement CellKey) (taken : Taken) → judged ≡ Ok (shown taken) → Judges result judged → TakesItems result taken
judges-takes (Ok outcome) judged taken is judges = let P : Result Judgement CellKey → Type 0 = λ r. Judges (Ok outcome) r in subst P is judges
judges-takes (Err (JudgeStop.NeedCell key)) judged taken is stops = let clash : Ok (shown taken) ≡ Err key = sym is ∙ stops in cc
judges-takes (Err JudgeStop.NoMemory) judged taken is stops = refl
