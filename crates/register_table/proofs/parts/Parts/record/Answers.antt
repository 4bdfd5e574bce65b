use Rattle.std.proofs.Common.{sym, ◌∙◌}
use Rattle.register_table.proofs.ReadLemmas.{no_record, record_held}
use Rattle.register_table.proofs.parts.Parts.record.Goals as goal

pub returns-in-Some : goal.returns-in-Some
returns-in-Some c =
    let slot = c.in-Some.slot.now in
    c.record_in.ensures ∙ record_held c.args.self.now.cells slot.entry c.args.lei.now slot.item (sym c.in-Some.ensures.cell) c.in-Some.ensures.own

pub returns-in-None : goal.returns-in-None
returns-in-None c = no_record c.args.self.now.cells c.args.lei.now (sym c.in-None.ensures.cell)
