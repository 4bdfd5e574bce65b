use Rattle.std.proofs.Common.{Err, refl, ap, ◌∙◌}
use Rattle.register_table.specs.Held.{rows}
use Rattle.register_history.proofs.Registers.{no_cell_wanted}
use Rattle.register_state.proofs.judge.judge.Goals as goal

pub unreachable-requires : goal.unreachable-requires
unreachable-requires c =
    let takes = c.judge_by.ensures.over_tables (rows c.args.table.now.held) c.held.ensures.kept.sound refl in
    no_cell_wanted _ c.judge_by.result c.in-Err-NeedCell.field-0-0 takes (c.in-Err-NeedCell.is ∙ ap Err c.in-Err-NeedCell.field-0-is)
