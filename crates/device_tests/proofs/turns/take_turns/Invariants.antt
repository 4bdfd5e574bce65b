use Rattle.std.proofs.Common.{◌≡◌}
use Rattle.device_tests.proofs.turns.take_turns.Given as goal

abbrev pub invariant-loop-turn : goal.invariant-loop-turn
invariant-loop-turn g l = l.pass.table ≡ l.fn.pass.table
