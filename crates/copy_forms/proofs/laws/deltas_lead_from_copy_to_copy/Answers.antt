use Rattle.copy_forms.proofs.BetweenLemmas.{deltas_lead}
use Rattle.copy_forms.proofs.laws.deltas_lead_from_copy_to_copy.Goals as goal

pub returns : goal.returns
returns c = deltas_lead
