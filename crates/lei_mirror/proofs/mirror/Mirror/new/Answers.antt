use Rattle.lei_mirror.proofs.TakingLemmas.{empty_is}
use Rattle.lei_mirror.proofs.mirror.Mirror.new.Goals as goal

pub invariant_of-result : goal.invariant_of-result
invariant_of-result c = empty_is c.in_ok-empty.field-0 c.new.result.items c.in_ok-empty.ensures c.new.ensures.items
