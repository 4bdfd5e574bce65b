use Rattle.std.proofs.Common.{length}
use Rattle.delta_apply.proofs.Putting.{Walked}
use Rattle.delta_apply.proofs.csv.put_patched.Given as goal

-- so far the output has the lines of the rows before what is left, and among them what the changes before `next` put
abbrev pub invariant-loop-reader : goal.invariant-loop-reader
invariant-loop-reader l = Walked l.sheet l.base_wide l.delta.wide l.bytes l.delta.changes l.fn.out.items l.reader l.last l.next l.out.items

abbrev pub decreases-loop-reader : goal.decreases-loop-reader
decreases-loop-reader l = length l.reader
