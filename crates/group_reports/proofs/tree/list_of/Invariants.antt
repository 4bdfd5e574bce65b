use Rattle.std.proofs.Common.{◌≡◌}
use Rattle.group_reports.proofs.tree.list_of.Given as goal

-- those so far were pushed
abbrev pub invariant-loop-place : goal.invariant-loop-place
invariant-loop-place l = l.made.items ≡ l.yielded
