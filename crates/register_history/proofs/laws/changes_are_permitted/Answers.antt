use Rattle.register_history.proofs.Passing.{all_permitted}
use Rattle.register_history.proofs.laws.changes_are_permitted.Goals as goal

pub returns : goal.returns
returns c = λ office legal. all_permitted office
