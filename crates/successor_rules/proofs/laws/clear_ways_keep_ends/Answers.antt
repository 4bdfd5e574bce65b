use Rattle.successor_rules.proofs.ChainLemmas.{keeps_ends}
use Rattle.successor_rules.proofs.laws.clear_ways_keep_ends.Goals as goal

-- src/laws.rt:16:1
pub returns : goal.returns
returns c = keeps_ends
