use Rattle.std.proofs.Common.{◌≡◌, rules, map, sym, ◌∙◌}
use Rattle.register_table.specs.Cells.{owned_slots, under_texts}
use Rattle.register_table.specs.Touched.{cell_under_key}
use Rattle.register_table.proofs.TouchLemmas.{entries-held_in, rising-unlent}
use Rattle.register_table.proofs.cells.touched_in.Goals as goal

pub returns-clause-told : goal.returns-clause-told
returns-clause-told c =
    let slots = c.args.slots.now.entries in
    let whole : map cell_under_key c.loop-key.list.items ≡ map under_texts (owned_slots slots) = search rules in
    whole ∙ sym (entries-held_in (owned_slots slots) (rising-unlent slots c.len.ensures.ordered))
