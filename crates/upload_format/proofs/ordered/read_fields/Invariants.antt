use Rattle.std.proofs.Common.{length}
use Rattle.json.specs.Json.{Members}
use Rattle.json.specs.Find.{InMembers}
use Rattle.upload_format.proofs.OrderedLemmas.{FieldsSoFar}
use Rattle.upload_format.proofs.ordered.read_fields.Given as goal

abbrev pub invariant-loop-name : goal.invariant-loop-name
invariant-loop-name l = (ms : Members) → InMembers l.fn.members ms → FieldsSoFar ms l.members l.fields

abbrev pub decreases-loop-name : goal.decreases-loop-name
decreases-loop-name l = length l.members
