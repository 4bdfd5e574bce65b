use Rattle.std.proofs.Common.{length}
use Rattle.upload_format.proofs.OrderedLemmas.{ValuesSoFar}
use Rattle.upload_format.proofs.ordered.push_items.Given as goal

abbrev pub invariant-loop-value : goal.invariant-loop-value
invariant-loop-value l = ValuesSoFar l.kind l.fn.items l.items l.fn.values.items l.values.items

abbrev pub decreases-loop-value : goal.decreases-loop-value
decreases-loop-value l = length l.items
