use Rattle.std.proofs.Common.{◌≤◌, ◌-◌, length}
use Rattle.successor_rules.specs.Levels.{known_nexts}
use Rattle.successor_rules.proofs.StageLemmas.{Stage}
use Rattle.successor_rules.proofs.spreading.reach.Given as goal

abbrev pub invariant-loop-asked : goal.invariant-loop-asked
invariant-loop-asked g l = record {
  stage : Stage (known_nexts (g.B.Branches.answers l.branches)) l.own l.from l.asked l.found;
  within : l.asked ≤ length l.found;
}

-- at most 200 are looked up
abbrev pub decreases-loop-asked : goal.decreases-loop-asked
decreases-loop-asked g l = 200 - l.asked
