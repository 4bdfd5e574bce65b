use Rattle.register_judge.proofs.ChainLemmas.{chains-put}
use Rattle.register_judge.proofs.laws.accepted_successors_keep_chains.Goals as goal

pub returns : goal.returns
returns c = chains-put
