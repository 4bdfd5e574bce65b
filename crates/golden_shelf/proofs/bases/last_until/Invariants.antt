use Rattle.std.proofs.Common.{◌≡◌, ◌-ℤ◌, pos, take}
use Rattle.golden_shelf.specs.Bases.{last_until, moments_in}
use Rattle.golden_shelf.proofs.bases.last_until.Given as goal

-- none of the publications from the index on is old enough
abbrev pub invariant-loop-index : goal.invariant-loop-index
invariant-loop-index l =
    last_until (l.latest -ℤ pos l.seconds) (moments_in (take l.index l.issues)) ≡ last_until (l.latest -ℤ pos l.seconds) (moments_in l.issues)
