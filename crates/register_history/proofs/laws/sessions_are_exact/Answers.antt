use Rattle.register_history.proofs.Sessions.{exact}
use Rattle.register_history.proofs.laws.sessions_are_exact.Goals as goal

pub returns : goal.returns
returns c = λ old new asks moments replies session lacks kept. exact asks old new moments replies session lacks kept
