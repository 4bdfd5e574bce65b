use Rattle.memory_devices.proofs.KeepingLemmas.{nothing-kept}
use Rattle.memory_devices.proofs.keeper.SureKeeper.new.Goals as goal

pub invariant_of-result : goal.invariant_of-result
invariant_of-result c = rw (c.new.ensures.items, c.new-2.ensures.items) nothing-kept
