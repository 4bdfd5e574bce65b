use Rattle.std.proofs.Common.{sym, ◌∙◌}
use Rattle.register_table.proofs.ReadLemmas.{no_relation, relation_held}
use Rattle.register_table.proofs.parts.Parts.relation.Goals as goal

pub returns-in-Some : goal.returns-in-Some
returns-in-Some c =
    let slot = c.in-Some.slot.now in
    c.relation_in.ensures
    ∙ relation_held c.args.self.now.cells slot.entry c.args.start.now c.args.kind c.args.end.now slot.item (sym c.in-Some.ensures.cell) c.in-Some.ensures.own

pub returns-in-None : goal.returns-in-None
returns-in-None c = no_relation c.args.self.now.cells c.args.start.now c.args.kind c.args.end.now (sym c.in-None.ensures.cell)
