use Rattle.std.proofs.Common.{◌∙◌}
use Rattle.register_table.specs.Held.{rows}
use Rattle.register_table.specs.Indexes.{end_in_index, holder_in}
use Rattle.register_table.proofs.ReadLemmas.{active_none, active_noted}
use Rattle.register_table.proofs.parts.Parts.active.Goals as goal

pub returns-in-Some : goal.returns-in-Some
returns-in-Some c =
    let parts = c.args.self.now in
    c.if_active.ensures
    ∙ active_noted (rows parts.cells) c.requires.kept.sound (holder_in parts.holders) (end_in_index parts.ends) c.requires.indexes
    c.args.start.now c.args.kind c.in-Some.end c.in-Some.ensures

pub returns-in-None : goal.returns-in-None
returns-in-None c =
    let parts = c.args.self.now in
    active_none (rows parts.cells) c.requires.kept.sound (holder_in parts.holders) (end_in_index parts.ends) c.requires.indexes
    c.args.start.now c.args.kind c.in-None.ensures
