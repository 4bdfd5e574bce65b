use Rattle.successor_rules.proofs.WalkLemmas.{ended_walk_keeps_ends}
use Rattle.successor_rules.proofs.laws.ending_walks_keep_ends.Goals as goal

-- src/laws.rt:23:1
pub returns : goal.returns
returns c = ended_walk_keeps_ends
