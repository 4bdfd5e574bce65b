use Rattle.register_table.specs.Cells.{cell_in}
use Rattle.register_table.specs.Held.{cell_key}
use Rattle.register_table.specs.Indexes.{end_in_index, holder_in}
use Rattle.register_table.proofs.PartLemmas.{both_put, parts_put}
use Rattle.register_table.proofs.parts.put.Goals as goal

pub returns-clause-parts : goal.returns-clause-parts
returns-clause-parts c =
    let old = c.args.parts.now in
    let slot = c.args.slot in
    let newer = holder_in c.index.new.holders in
    let later = end_in_index c.index.new.ends in
    let both = both_put old.cells (holder_in old.holders) newer (end_in_index old.ends) later c.requires.parts.kept c.requires.parts.indexes
    c.args.key slot.entry slot.item c.requires.own c.requires.kept c.in_ok-index.ensures.ok.by_key c.in_ok-index.ensures.ok.by_start in
    let after = parts_put c.insert.result old.cells c.insert.new.self newer later (cell_key c.args.key) (cell_in slot)
    c.insert.ensures.cells c.insert.ensures.err c.requires.parts.kept c.requires.kept both in
    record { kept = after.0; indexes = after.1 }
