use Rattle.register_table.proofs.TouchLemmas.{lent-cells, lent-own}
use Rattle.register_table.proofs.cells.lend.Goals as goal

pub returns-in-Ok-clause-cells : goal.returns-in-Ok-clause-cells
returns-in-Ok-clause-cells c = lent-cells c.args.slots.now.entries c.insert.new.self.entries c.args.key.now c.args.slot c.in-Ok.ensures.entries

pub returns-in-Ok-clause-own : goal.returns-in-Ok-clause-own
returns-in-Ok-clause-own c =
    lent-own c.args.slots.now.entries c.insert.new.self.entries c.args.key.now c.args.slot c.in-Ok.ensures.entries c.requires.own c.requires.all_own
