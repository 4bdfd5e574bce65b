use Rattle.register_history.proofs.Orders.{numbered}
use Rattle.register_history.proofs.laws.uploads_are_numbered.Goals as goal

pub returns : goal.returns
returns c = numbered
