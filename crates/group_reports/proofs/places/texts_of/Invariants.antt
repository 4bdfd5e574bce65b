use Rattle.std.proofs.Common.{◌≡◌}
use Rattle.group_reports.proofs.places.texts_of.Given as goal

-- those so far were pushed
abbrev pub invariant-loop-entity : goal.invariant-loop-entity
invariant-loop-entity l = l.texts ≡ l.yielded
