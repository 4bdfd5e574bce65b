use Rattle.std.proofs.Common.{ap, sym, ◌∙◌}
use Rattle.register_history.specs.Replies.{stays}
use Rattle.register_state.proofs.Shelved.{copy-memory, copy-told}
use Rattle.register_state.proofs.publishing.latest_copy.Goals as goal

pub returns-in-Ok : goal.returns-in-Ok
returns-in-Ok c = λ trail keeps.
    copy-told trail c.args.shelf.now.now c.args.sheet c.args.form c.in-Ok.text keeps c.requires c.in-Ok.ensures.copy ∙ ap stays (sym c.file_reply.ensures)

pub returns-in-Err : goal.returns-in-Err
returns-in-Err c = λ trail keeps. copy-memory trail c.args.shelf.now.now c.args.sheet c.args.form keeps c.requires
