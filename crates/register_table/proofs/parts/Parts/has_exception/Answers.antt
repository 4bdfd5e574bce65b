use Rattle.std.proofs.Common.{sym, ◌∙◌}
use Rattle.register_table.proofs.ReadLemmas.{exception_held, no_exception}
use Rattle.register_table.proofs.parts.Parts.has_exception.Goals as goal

pub returns-in-Some : goal.returns-in-Some
returns-in-Some c =
    let slot = c.in-Some.slot.now in
    c.is_some.ensures ∙ exception_held c.args.self.now.cells slot.entry c.args.lei.now c.args.category slot.item (sym c.in-Some.ensures.cell)

pub returns-in-None : goal.returns-in-None
returns-in-None c = no_exception c.args.self.now.cells c.args.lei.now c.args.category (sym c.in-None.ensures.cell)
