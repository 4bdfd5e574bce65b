use Rattle.std.proofs.Common.{ap, sym, ◌∙◌}
use Rattle.std.specs.Prelude.{option_map}
use Rattle.lei_records.specs.declared.item.Item.{Item}
use Rattle.register_table.proofs.ReadLemmas.{no_record, record_held}
use Rattle.register_table.proofs.parts.Parts.record_item.Goals as goal

pub returns-in-Some : goal.returns-in-Some
returns-in-Some c =
    let slot = c.in-Some.slot.now in
    c.record_item_in.ensures
    ∙ ap (option_map Item.Record) (record_held c.args.self.now.cells slot.entry c.args.lei.now slot.item (sym c.in-Some.ensures.cell) c.in-Some.ensures.own)

pub returns-in-None : goal.returns-in-None
returns-in-None c = ap (option_map Item.Record) (no_record c.args.self.now.cells c.args.lei.now (sym c.in-None.ensures.cell))
