use Rattle.std.proofs.Common.{◌≡◌, ◌++◌}
use Rattle.lei_mirror.proofs.shared.shared_rows.Given as goal

-- the rows so far and those that are left are all rows
abbrev pub invariant-loop-row : goal.invariant-loop-row
invariant-loop-row l = l.made.items ++ l.row-iterator.rest.items ≡ l.fn.rows.items
