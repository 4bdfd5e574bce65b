-- A relationship that is put leaves a sound table sound.
use Rattle.std.specs.Prelude.{◌≡◌, false, ◌&&◌, find}
use Rattle.std.proofs.Common.{sym, ap, subst, ◌∙◌}
use Rattle.lei_records.specs.declared.item.Item.{Item}
use Rattle.lei_records.specs.Relations.{end_in, is_active}
use Rattle.lei_records.specs.Rows.{Row}
use Rattle.lei_records.specs.Spelled.{IsRelationRow}
use Rattle.lei_records.specs.Tables.{AreRelationsKeyed, HasRelationRows, IsSoundTable, Table, put, relation_key_in, relations_of}
use Rattle.lei_records.proofs.OptionLemmas.{none_where, some_mapped}
use Rattle.relation_rules.specs.Checks.{c37, is_in_the_way, other_end}
use Rattle.relation_rules.proofs.ActiveLemmas.{HasActives-put, IsFitting, split, with_relation}

-- a relationship that passes C37 conflicts with no other
pub fitting : (table : Table) (row : Row) → (c37 (other_end table row) row).fails ≡ false → IsFitting table row
fitting table row passes =
    let found = find (is_in_the_way row) (relations_of table) in
    none_where (is_active row) found (ap (λ some. is_active row && some) (sym (some_mapped end_in found)) ∙ passes)

pub AreRelationsKeyed-put : (table : Table) (row : Row) → AreRelationsKeyed table → AreRelationsKeyed (with_relation table row)
AreRelationsKeyed-put table row keyed key other at =
    split table row key other (key ≡ relation_key_in other) at (λ own same. own ∙ ap relation_key_in same) (λ _ was. keyed key other was)

HasRelationRows-put : (table : Table) (row : Row) → IsRelationRow row → HasRelationRows table → HasRelationRows (with_relation table row)
HasRelationRows-put table row is_row rows key other at =
    split table row key other (IsRelationRow other) at (λ _ same. subst IsRelationRow same is_row) (λ _ was. rows key other was)

pub IsSoundTable-put_relation : (table : Table) (row : Row) → IsSoundTable table → IsRelationRow row → (c37 (other_end table row) row).fails ≡ false
    → IsSoundTable (put table (Item.Relation row))
IsSoundTable-put_relation table row sound is_row passes = record {
  keyed = sound.keyed;
  holders = sound.holders;
  rows = sound.rows;
  relations_keyed = AreRelationsKeyed-put table row sound.relations_keyed;
  relation_rows = HasRelationRows-put table row is_row sound.relation_rows;
  actives = HasActives-put table row sound.relations_keyed sound.actives (fitting table row passes);
  exceptions_keyed = sound.exceptions_keyed;
  exception_rows = sound.exception_rows;
}
