use Rattle.delta_apply.proofs.Answering.{csv-some_copy}
use Rattle.delta_apply.proofs.applying.answer_unread.Goals as goal

pub returns-in-Ok : goal.returns-in-Ok
returns-in-Ok c = λ delta none. (csv-some_copy c.args.copy.now c.args.sheet c.in-Ok.read c.in-Ok.ensures.found, none)
