use Rattle.std.proofs.Common.{◌∙◌}
use Rattle.register_table.specs.Held.{rows}
use Rattle.register_table.specs.Indexes.{end_in_index, holder_in}
use Rattle.register_table.proofs.ReadLemmas.{holder_none, holder_noted}
use Rattle.register_table.proofs.parts.Parts.holder.Goals as goal

pub returns-in-Some : goal.returns-in-Some
returns-in-Some c =
    let parts = c.args.self.now in
    c.if_held.ensures
    ∙ holder_noted (rows parts.cells) c.requires.kept.sound (holder_in parts.holders) (end_in_index parts.ends) c.requires.indexes
    c.args.authority.now c.args.id.now c.in-Some.lei c.in-Some.ensures

pub returns-in-None : goal.returns-in-None
returns-in-None c =
    let parts = c.args.self.now in
    holder_none (rows parts.cells) c.requires.kept.sound (holder_in parts.holders) (end_in_index parts.ends) c.requires.indexes
    c.args.authority.now c.args.id.now c.in-None.ensures
