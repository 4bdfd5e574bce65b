use Rattle.std.proofs.Common.{◌≡◌, ◌++◌, map, take}
use Rattle.group_reports.specs.Listings.{placed_at}
use Rattle.group_reports.proofs.listing.add_level.Given as goal

-- the places so far were pushed
abbrev pub invariant-loop-place : goal.invariant-loop-place
invariant-loop-place l = l.made.items ≡ l.fn.made.items ++ map (placed_at l.fn.depth) (take l.place-index l.level)
