use Rattle.std.proofs.Common.{◌≡◌, rules, map, sym, ap, ◌∙◌}
use Rattle.std.specs.List.{filter}
use Rattle.register_table.specs.Cells.{under_texts}
use Rattle.register_table.specs.Touched.{cell_under_key, is_touched}
use Rattle.register_table.proofs.TouchLemmas.{entries-held_in}
use Rattle.register_table.proofs.cells.touched_among.Goals as goal

pub returns-clause-told : goal.returns-clause-told
returns-clause-told c =
    let cells = c.args.cells.now.entries in
    let passes = filter (λ cell. is_touched c.args.after c.args.upto cell.1) in
    let whole : map cell_under_key c.loop-key.list.items ≡ passes (map under_texts cells) = search rules in
    whole ∙ sym (ap passes (entries-held_in cells c.len-cells.ensures.ordered))
