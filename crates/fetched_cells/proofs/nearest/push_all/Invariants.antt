use Rattle.std.proofs.Common.{◌≡◌, ◌++◌}
use Rattle.fetched_cells.proofs.nearest.push_all.Given as goal

-- the LEIs before this one were pushed
abbrev pub invariant-loop-lei : goal.invariant-loop-lei
invariant-loop-lei l = l.met.items ≡ l.fn.met.items ++ l.yielded
