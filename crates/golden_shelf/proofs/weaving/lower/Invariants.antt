use Rattle.std.proofs.Common.{◌≡◌, ◌+◌, ◌≤◌, ◌++◌, length}
use Rattle.golden_shelf.proofs.weaving.lower.Given as goal

-- the lines, followed by those that wait, are the same as at first
abbrev pub invariant-loop-key : goal.invariant-loop-key
invariant-loop-key l =
    (l.rows.lines ++ l.rest.lines ≡ l.fn.rows.lines ++ l.fn.rest.lines)
    × (length l.rows.lines + length l.rest.lines ≤ l.rest.room)
    × (l.rows.room ≡ l.fn.rows.room) × (l.rest.room ≡ l.fn.rest.room)

abbrev pub decreases-loop-key : goal.decreases-loop-key
decreases-loop-key l = length l.rows.lines
