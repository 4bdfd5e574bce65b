-- What a relationship and an exception do to the cells of a table. The table's rows must be under their own keys, and
-- no two active relationships may have the same start and type. Its rows needn't be those of items.
use Rattle.std.specs.Prelude.{◌≡◌, ℕ, List, Bool, true, false, not, ◌&&◌, cond, Option, Some, None, is_some, option_map}
use Rattle.std.specs.FinMap.{get-insert, get-remove}
use Rattle.std.specs.Str.{bytes_eq}
use Rattle.std.proofs.Common.{refl, sym, ap, ◌∙◌}
use Rattle.lei_shapes.specs.declared.lists.ExceptionCategory.{ExceptionCategory}
use Rattle.lei_shapes.specs.declared.lists.RelationType.{RelationType}
use Rattle.lei_records.specs.declared.item.Item.{Item}
use Rattle.lei_records.specs.declared.view.Seen.{Seen}
use Rattle.lei_records.specs.Exceptions.{exception_category_in, subject_in, is_same_category}
use Rattle.lei_records.specs.Relations.{end_in, is_active, is_active_of, rel_cell}
use Rattle.lei_records.specs.Rows.{Row}
use Rattle.lei_records.specs.Tables.{AreRelationsKeyed, HasActives, Table, active_of, cells_of, exception_key, exception_key_in, exception_row, has_exception, put, relation_key, relation_key_in, relation_of, relation_row, seen, seen_fact}
use Rattle.authority_rules.specs.Taken.{unless_own}
use Rattle.authority_rules.proofs.HolderLemmas.{keys_total}
use Rattle.authority_rules.proofs.KeyLemmas.{tied-exception_key, tied-relation_key}
use Rattle.authority_rules.proofs.PutLemmas.{other_than}
use Rattle.relation_rules.specs.Checks.{is_from}
use Rattle.relation_rules.proofs.ActiveLemmas.{IsFitting, active_of-put, with_relation}
use Rattle.relation_rules.proofs.CheckLemmas.{seen_other}
use Rattle.register_judge.specs.Overlays.{is_between, put_exception, put_relation, with_active}

-- ---- a relationship is put

seen_row : (b : Bool) (row : Row) (held : Option Row)
    → seen (option_map rel_cell (cond b (Some row) held)) ≡ cond b (Seen.Held (rel_cell row)) (seen (option_map rel_cell held))
seen_row true row held = refl
seen_row false row held = refl

relation_cell : (table : Table) (row : Row) (start : List ℕ) (kind : RelationType) (end : List ℕ)
    → seen (relation_of (with_relation table row) start kind end)
    ≡ cond (is_between start kind end row) (Seen.Held (rel_cell row)) (seen (relation_of table start kind end))
relation_cell table row start kind end =
    let key = relation_key start kind end in
    ap (λ r. seen (option_map rel_cell r)) (get-insert keys_total table.relations (relation_key_in row) row key)
    ∙ (ap (λ b. seen (option_map rel_cell (cond b (Some row) (relation_row table start kind end)))) (tied-relation_key start kind end row)
    ∙ seen_row (is_between start kind end row) row (relation_row table start kind end))

-- the row's end if the row is active and has the start and the type, or else what is left of what was held
seen_active : (active of_them : Bool) (end : List ℕ) (held : Option (List ℕ))
    → seen (cond (active && of_them) (Some end) (cond of_them (other_than end held) held))
    ≡ cond of_them (cond active (Seen.Held end) (unless_own end (seen held))) (seen held)
seen_active true true end held = refl
seen_active true false end held = refl
seen_active false true end held = seen_other end held
seen_active false false end held = refl

active_by : (start : List ℕ) (kind : RelationType) (row : Row) → is_active_of start kind row ≡ (is_active row && is_from start kind row)
unfolding is_active_of
active_by start kind row = refl

active_cell : (table : Table) (row : Row) (start : List ℕ) (kind : RelationType) → AreRelationsKeyed table → HasActives table → IsFitting table row
    → seen (active_of (with_relation table row) start kind)
    ≡ cond (is_from start kind row) (with_active row (seen (active_of table start kind))) (seen (active_of table start kind))
active_cell table row start kind keyed actives fits =
    let held = active_of table start kind in
    ap seen (active_of-put table row start kind keyed actives fits)
    ∙ (ap (λ b. seen (cond b (Some (end_in row)) (cond (is_from start kind row) (other_than (end_in row) held) held))) (active_by start kind row)
    ∙ seen_active (is_active row) (is_from start kind row) (end_in row) held)

-- to put a fitting relationship into a table is to put it over the table's cells
pub cells-put_relation : (table : Table) (row : Row) → AreRelationsKeyed table → HasActives table → IsFitting table row
    → put_relation (cells_of table) row ≡ cells_of (put table (Item.Relation row))
cells-put_relation table row keyed actives fits = λ i. record (cells_of table) {
  relation = λ start kind end. sym (relation_cell table row start kind end) i;
  active = λ start kind. sym (active_cell table row start kind keyed actives fits) i;
}

-- ---- an exception is put, or withdrawn

seen_put : (b : Bool) (row : Row) (held : Option Row) → seen_fact (is_some (cond b (Some row) held)) ≡ cond b (seen_fact true) (seen_fact (is_some held))
seen_put true row held = refl
seen_put false row held = refl

seen_gone : (b : Bool) (held : Option Row) → seen_fact (is_some (cond b None held)) ≡ cond b (seen_fact false) (seen_fact (is_some held))
seen_gone true held = refl
seen_gone false held = refl

exception_cell : (table : Table) (row : Row) (withdraws : Bool) (lei : List ℕ) (category : ExceptionCategory)
    → seen_fact (has_exception (put table (Item.Exception (row, withdraws))) lei category)
    ≡ cond (bytes_eq (subject_in row) lei && is_same_category (exception_category_in row) category) (seen_fact (not withdraws)) (seen_fact (has_exception table lei category))
exception_cell table row false lei category =
    let held = exception_row table lei category in
    ap (λ r. seen_fact (is_some r)) (get-insert keys_total table.exceptions (exception_key_in row) row (exception_key lei category))
    ∙ (ap (λ b. seen_fact (is_some (cond b (Some row) held))) (tied-exception_key lei category row) ∙ seen_put _ row held)
exception_cell table row true lei category =
    let held = exception_row table lei category in
    ap (λ r. seen_fact (is_some r)) (get-remove keys_total table.exceptions (exception_key_in row) (exception_key lei category))
    ∙ (ap (λ b. seen_fact (is_some (cond b None held))) (tied-exception_key lei category row) ∙ seen_gone _ held)

-- to put an exception into a table, or to withdraw it, is to do so over the table's cells
pub cells-put_exception : (table : Table) (row : Row) (withdraws : Bool)
    → put_exception (cells_of table) (subject_in row) (exception_category_in row) (not withdraws) ≡ cells_of (put table (Item.Exception (row, withdraws)))
cells-put_exception table row true = λ i. record (cells_of table) { exception = λ lei category. sym (exception_cell table row true lei category) i }
cells-put_exception table row false = λ i. record (cells_of table) { exception = λ lei category. sym (exception_cell table row false lei category) i }
