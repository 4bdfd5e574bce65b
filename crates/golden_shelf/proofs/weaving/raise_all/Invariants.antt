use Rattle.std.proofs.Common.{◌≡◌, ◌+◌, ◌≤◌, ◌++◌, length}
use Rattle.golden_shelf.proofs.weaving.raise_all.Given as goal

-- the lines, followed by those that wait, are the same as at first
abbrev pub invariant-loop-first : goal.invariant-loop-first
invariant-loop-first l =
    (l.rows.lines ++ l.rest.lines ≡ l.fn.rows.lines ++ l.fn.rest.lines)
    × (length l.rows.lines + length l.rest.lines ≤ l.rows.room)
    × (l.rows.room ≡ l.fn.rows.room) × (l.rest.room ≡ l.fn.rest.room)

abbrev pub decreases-loop-first : goal.decreases-loop-first
decreases-loop-first l = length l.rest.lines
