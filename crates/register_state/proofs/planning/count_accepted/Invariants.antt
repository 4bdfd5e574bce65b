use Rattle.std.proofs.Common.{◌≡◌, take}
use Rattle.std.specs.Prelude.{count_by, min}
use Rattle.register_state.specs.Planning.{is_accepted}
use Rattle.register_state.proofs.planning.count_accepted.Given as goal

abbrev pub invariant-loop-verdict : goal.invariant-loop-verdict
invariant-loop-verdict l = l.count ≡ min (count_by is_accepted (take l.verdict-index l.verdicts)) 4294967295
