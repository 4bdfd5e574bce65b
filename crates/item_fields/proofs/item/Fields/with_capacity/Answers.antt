use Rattle.item_fields.proofs.PairLemmas.{none_paired}
use Rattle.item_fields.proofs.item.Fields.with_capacity.Goals as goal

pub invariant_of-result : goal.invariant_of-result
invariant_of-result c = none_paired _ c.in_ok-texts.ensures
