use Rattle.copy_forms.proofs.BetweenLemmas.{deltas_lead_between}
use Rattle.copy_forms.proofs.laws.deltas_lead_on_from_between.Goals as goal

pub returns : goal.returns
returns c = deltas_lead_between
