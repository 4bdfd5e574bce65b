use Rattle.std.proofs.Common.{refl, subst, sym}
use Rattle.register_table.specs.Cells.{AreOwnCells}
use Rattle.register_table.proofs.CellLemmas.{held_in-none, no_counts}
use Rattle.register_table.proofs.cells.CellMap.new.Goals as goal

pub invariant_of-result : goal.invariant_of-result
invariant_of-result c = (
  subst AreOwnCells (sym c.new.ensures.empty) tt,
  no_counts c.new.result.entries (record { records = 0; relations = 0; exceptions = 0 }) c.new.ensures.empty refl refl refl,
)

pub returns : goal.returns
returns c = held_in-none c.new.result.entries c.new.ensures.empty
