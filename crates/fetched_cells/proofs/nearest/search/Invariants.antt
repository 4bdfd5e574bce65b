use Rattle.std.proofs.Common.{◌-◌, ◌≤◌}
use Rattle.successor_rules.specs.Levels.{known_nexts}
use Rattle.fetched_cells.proofs.NearestLemmas.{Searched, sought}
use Rattle.fetched_cells.proofs.nearest.search.Given as goal

-- the levels that are left have the rest of the LEIs to find
abbrev pub invariant-loop : goal.invariant-loop
invariant-loop g l =
    let nexts = known_nexts (g.B.Branches.answers l.branches) in
    record {
      searched : Searched nexts (201 - l.counter) l.met.items l.before (sought nexts l.own);
      few : l.counter ≤ 201;
    }
