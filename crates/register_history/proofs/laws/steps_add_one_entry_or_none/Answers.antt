use Rattle.register_history.proofs.Stepping.{one-or-none}
use Rattle.register_history.proofs.laws.steps_add_one_entry_or_none.Goals as goal

pub returns : goal.returns
returns c = one-or-none
