use Rattle.std.proofs.Common.{◌≤◌, ◌-◌, length}
use Rattle.name_search.specs.Places.{PrecedesNames, FollowsNames}
use Rattle.name_search.proofs.places.place_between.Given as goal

-- the key stands after those before one place, and before those from another place on
abbrev pub invariant-loop-low : goal.invariant-loop-low
invariant-loop-low l = record {
  within : l.high ≤ length l.rows.items;
  ordered : l.low ≤ l.high;
  below : FollowsNames l.rows.items l.key l.low;
  above : PrecedesNames l.rows.items l.key l.high;
}

abbrev pub decreases-loop-low : goal.decreases-loop-low
decreases-loop-low l = l.high - l.low
