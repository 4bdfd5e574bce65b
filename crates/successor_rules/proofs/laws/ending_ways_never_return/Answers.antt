use Rattle.successor_rules.proofs.ChainLemmas.{never_returns}
use Rattle.successor_rules.proofs.laws.ending_ways_never_return.Goals as goal

-- src/laws.rt:10:1
pub returns : goal.returns
returns c = never_returns
