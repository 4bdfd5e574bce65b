use Rattle.std.proofs.Common.{◌-◌}
use Rattle.successor_rules.proofs.StageLemmas.{Asked}
use Rattle.successor_rules.proofs.spreading.spread_from.Given as goal

abbrev pub invariant-loop-asked : goal.invariant-loop-asked
invariant-loop-asked g l = Asked (g.B.Branches.answers l.branches) l.own l.from l.asked l.found l.is_met l.lacking

-- at most 200 are looked up
abbrev pub decreases-loop-asked : goal.decreases-loop-asked
decreases-loop-asked g l = 200 - l.asked
