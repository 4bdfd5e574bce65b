-- An exception that is put or withdrawn leaves a sound table sound.
use Rattle.std.specs.Prelude.{Bool, true, false}
use Rattle.std.proofs.Common.{subst, ap, ◌∙◌}
use Rattle.lei_records.specs.declared.item.Item.{Item}
use Rattle.lei_records.specs.Rows.{Row}
use Rattle.lei_records.specs.Spelled.{IsExceptionRow}
use Rattle.lei_records.specs.Tables.{AreExceptionsKeyed, HasExceptionRows, IsSoundTable, Rows, Table, exception_key_in, put, with_exceptions}
use Rattle.authority_rules.proofs.UnderKeys.{inserted, removed}

-- other exceptions leave everything else that a sound table requires
sound_with : (table : Table) (rows : Rows) → IsSoundTable table → AreExceptionsKeyed (with_exceptions table rows) → HasExceptionRows (with_exceptions table rows)
    → IsSoundTable (with_exceptions table rows)
sound_with table rows sound keyed are_rows = record {
  keyed = sound.keyed;
  holders = sound.holders;
  rows = sound.rows;
  relations_keyed = sound.relations_keyed;
  relation_rows = sound.relation_rows;
  actives = sound.actives;
  exceptions_keyed = keyed;
  exception_rows = are_rows;
}

pub IsSoundTable-put_exception : (table : Table) (row : Row) (withdraws : Bool) → IsSoundTable table → IsExceptionRow row
    → IsSoundTable (put table (Item.Exception (row, withdraws)))
IsSoundTable-put_exception table row true sound is_row =
    let gone = removed table.exceptions (exception_key_in row) in
    sound_with table _ sound
    (λ key other at. sound.exceptions_keyed key other (gone key other at))
    (λ key other at. sound.exception_rows key other (gone key other at))
IsSoundTable-put_exception table row false sound is_row =
    let put_or_was = inserted table.exceptions (exception_key_in row) row in
    sound_with table _ sound
    (λ key other at. put_or_was key other _ at (λ own same. own ∙ ap exception_key_in same) (λ _ was. sound.exceptions_keyed key other was))
    (λ key other at. put_or_was key other _ at (λ _ same. subst IsExceptionRow same is_row) (λ _ was. sound.exception_rows key other was))
