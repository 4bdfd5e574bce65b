use Rattle.std.proofs.Common.{◌≡◌, ◌++◌}
use Rattle.lei_mirror.proofs.changes.shared_changes.Given as goal

-- the changes so far and those that are left are all changes
abbrev pub invariant-loop-change : goal.invariant-loop-change
invariant-loop-change l = l.made.items ++ l.change-iterator.rest.items ≡ l.fn.changes.items
