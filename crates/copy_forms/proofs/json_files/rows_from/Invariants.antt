use Rattle.std.proofs.Common.{◌≡◌, ◌-◌, false}
use Rattle.std.specs.Prelude.{nat_lt}
use Rattle.copy_forms.specs.JsonReading.{items_from, record_from}
use Rattle.copy_forms.proofs.JsonItems.{with_items}
use Rattle.copy_forms.proofs.json_files.rows_from.Given as goal

abbrev pub invariant-loop-index : goal.invariant-loop-index
invariant-loop-index l =
    with_items l.rows.items (items_from (record_from l.sheet) (l.fn.count - l.index) (nat_lt 0 l.index) l.rest) ≡ items_from (record_from l.sheet) l.fn.count false l.bytes
