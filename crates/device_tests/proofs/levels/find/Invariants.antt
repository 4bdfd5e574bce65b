use Rattle.std.proofs.Common.{◌≡◌, drop}
use Rattle.device_tests.specs.Webs.{named_at}
use Rattle.device_tests.proofs.levels.find.Given as goal

-- what the rest has is what all rows have
abbrev pub invariant-loop-from : goal.invariant-loop-from
invariant-loop-from l = named_at (drop l.from-index l.rows) l.lei ≡ named_at l.rows l.lei
