use Rattle.register_history.proofs.Chained.{legal-chained}
use Rattle.register_history.proofs.laws.successors_are_chained.Goals as goal

pub returns : goal.returns
returns c = legal-chained
