use Rattle.register_history.proofs.Orders.{never_fall}
use Rattle.register_history.proofs.laws.moments_never_fall.Goals as goal

pub returns : goal.returns
returns c = never_fall
