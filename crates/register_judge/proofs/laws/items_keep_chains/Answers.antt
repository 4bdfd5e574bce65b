use Rattle.register_judge.proofs.ChainLemmas.{take-chains}
use Rattle.register_judge.proofs.laws.items_keep_chains.Goals as goal

pub returns : goal.returns
returns c = take-chains
