use Rattle.register_history.proofs.TouchedKeys.{touched-accepted}
use Rattle.register_history.proofs.laws.touched_keys_were_accepted.Goals as goal

pub returns : goal.returns
returns c = touched-accepted
