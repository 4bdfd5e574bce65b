use Rattle.std.proofs.Common.{◌≡◌, ◌+◌, ◌++◌, length}
use Rattle.golden_shelf.specs.Keys.{key_texts}
use Rattle.golden_shelf.specs.Walks.{below, lines_from}
use Rattle.golden_shelf.proofs.weaving.raise_before.Given as goal

-- the lines, followed by those that wait before the key, are the same as at first, and so are those that wait from it
-- on
abbrev pub invariant-loop-first : goal.invariant-loop-first
invariant-loop-first l =
    let k = key_texts l.fn.key in
    (l.rows.lines ++ below k l.rest.lines ≡ l.fn.rows.lines ++ below k l.fn.rest.lines)
    × (lines_from k l.rest.lines ≡ lines_from k l.fn.rest.lines)
    × (length l.rows.lines + length l.rest.lines ≡ length l.fn.rows.lines + length l.fn.rest.lines)
    × (l.rows.room ≡ l.fn.rows.room) × (l.rest.room ≡ l.fn.rest.room)

abbrev pub decreases-loop-first : goal.decreases-loop-first
decreases-loop-first l = length l.rest.lines
