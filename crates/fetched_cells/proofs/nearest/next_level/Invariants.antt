use Rattle.std.proofs.Common.{◌≡◌, drop}
use Rattle.std.specs.List.{flat_map}
use Rattle.successor_rules.specs.Levels.{known_nexts}
use Rattle.fetched_cells.specs.Nearest.{new_ones}
use Rattle.fetched_cells.proofs.NearestLemmas.{with_unmet}
use Rattle.fetched_cells.proofs.nearest.next_level.Given as goal

-- after what the LEIs from this one on name is added, the level has all of them
abbrev pub invariant-loop-lei : goal.invariant-loop-lei
invariant-loop-lei g l =
    let nexts = known_nexts (g.B.Branches.answers l.branches) in
    with_unmet l.met l.level.keys (flat_map nexts (drop l.lei-index (drop l.before l.met))) ≡ new_ones nexts l.met (drop l.before l.met)
