use Rattle.successor_rules.proofs.SingleLemmas.{single-levels}
use Rattle.successor_rules.proofs.laws.single_levels_are_chains.Goals as goal

pub returns : goal.returns
returns c = single-levels
