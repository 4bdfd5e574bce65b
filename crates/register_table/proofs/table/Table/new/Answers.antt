use Rattle.register_table.proofs.KeptLemmas.{later_none, no_parts, no_rows_of}
use Rattle.register_table.proofs.StampLemmas.{none_in_order, none_stamped}
use Rattle.register_table.proofs.table.Table.new.Goals as goal

pub invariant_of-result : goal.invariant_of-result
invariant_of-result c = (
  no_parts (record { cells = c.new.result; holders = c.new-2.result; ends = c.new-3.result }) c.new.ensures,
  tt,
  none_in_order c.new-4.result.items c.new-4.ensures.items,
  none_stamped c.new-4.result.items c.new.result c.new.ensures,
  tt,
)

pub returns-clause-rows : goal.returns-clause-rows
returns-clause-rows c = no_rows_of (record { cells = c.new.result; holders = c.new-2.result; ends = c.new-3.result }) c.new.ensures

pub returns-clause-numbers : goal.returns-clause-numbers
returns-clause-numbers c = λ n. later_none c.new.result n c.new.ensures
