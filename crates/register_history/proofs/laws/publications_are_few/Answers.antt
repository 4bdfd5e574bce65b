use Rattle.register_history.proofs.Stepping.{few-publications}
use Rattle.register_history.proofs.laws.publications_are_few.Goals as goal

pub returns : goal.returns
returns c = few-publications
