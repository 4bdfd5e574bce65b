use Rattle.std.proofs.Common.{◌≤◌, ◌-◌, length}
use Rattle.name_search.specs.Places.{FollowsNames}
use Rattle.name_search.proofs.places.bounds.Given as goal

-- the key stands after those before a place
abbrev pub invariant-loop-low : goal.invariant-loop-low
invariant-loop-low l = record {
  within : l.low ≤ length l.rows.items;
  below : FollowsNames l.rows.items l.key l.low;
}

abbrev pub decreases-loop-low : goal.decreases-loop-low
decreases-loop-low l = length l.rows.items - l.low
