use Rattle.std.proofs.Common.{Err, ap, sym, ◌∙◌}
use Rattle.line_reading.specs.Status.{end_status}
use Rattle.register_history.specs.Opened.{MayTell}
use Rattle.leireg_run.proofs.Completing.{completes_meant, completes_stopped, only_damage, output_stopped}
use Rattle.file_commands.proofs.TwoFilesRead.{rose_of, one_rose}
use Rattle.leireg_run.proofs.program.run.Goals as goal

pub returns-in-Ok-default-clause-complete : goal.returns-in-Ok-default-clause-complete
returns-in-Ok-default-clause-complete g c = λ what means _ _ _ _. completes_meant (MayTell g.K.Keeper.tables) _ what _ _ _ _ _ _ _
    (ap end_status c.in-Ok-default.is-0) c.number-in-Ok-default.ensures (sym c.in-Ok.ensures.meant) means c.run_command.ensures.does

pub returns-in-Err-default-clause-complete : goal.returns-in-Err-default-clause-complete
returns-in-Err-default-clause-complete g c = λ what means n6 input_still second_still out_still.
    let ended = c.run_command.ensures in
    completes_stopped (MayTell g.K.Keeper.tables) _ what _ _ _ _ _ c.run_command.result.0 c.in-Err-default.stop c.status.result c.in-Err-default.is-0 c.status.ensures (sym c.in-Ok.ensures.meant) means
    (λ failed. one_rose _ _ _ _ _ _ _ _ (ended.reads.last failed) input_still second_still) (λ failed. out_still (rose_of _ _ _ _ (ended.writes.last failed))) n6
    (λ damaged. ended.damage_told damaged out_still) ended.does

pub returns-in-Err-default-clause-damage_told : goal.returns-in-Err-default-clause-damage_told
returns-in-Err-default-clause-damage_told g c = λ seven out_still.
    let stop = c.in-Err-default.stop in
    c.run_command.ensures.damage_told (c.in-Err-default.is-0 ∙ ap Err (only_damage stop (sym c.status.ensures ∙ seven))) out_still

pub returns-in-Err-default-clause-writes : goal.returns-in-Err-default-clause-writes
returns-in-Err-default-clause-writes g c =
    output_stopped g.W.Sink.written g.W.Sink.faults c.args.out.now c.run_command.new.out c.run_command.result.0 c.in-Err-default.stop c.status.result
    c.in-Err-default.is-0 c.status.ensures c.run_command.ensures.writes
