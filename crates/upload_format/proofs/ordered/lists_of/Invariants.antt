use Rattle.std.proofs.Common.{length}
use Rattle.json.specs.Find.{InMembers}
use Rattle.json.specs.Json.{Members}
use Rattle.upload_format.specs.Ordered.{list_under}
use Rattle.upload_format.proofs.OrderedLemmas.{ListsSoFar}
use Rattle.upload_format.proofs.ordered.lists_of.Given as goal

abbrev pub invariant-loop-name : goal.invariant-loop-name
invariant-loop-name l = (ms : Members) → InMembers l.fn.members ms → ListsSoFar ms l.members (list_under l.lists)

abbrev pub decreases-loop-name : goal.decreases-loop-name
decreases-loop-name l = length l.members
