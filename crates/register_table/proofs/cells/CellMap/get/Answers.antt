use Rattle.register_table.proofs.CellLemmas.{get-lent, own-lent}
use Rattle.register_table.proofs.cells.CellMap.get.Goals as goal

pub returns-clause-cell : goal.returns-clause-cell
returns-clause-cell c = get-lent c.args.self.now c.self.inside.map.entries c.args.key.now c.get.result c.self.view_is c.get.ensures.value

pub returns-clause-own : goal.returns-clause-own
returns-clause-own c = own-lent c.args.key.now c.self.inside.map.entries c.get.result c.self.invariant.0 c.get.ensures.value
