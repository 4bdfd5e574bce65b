use Rattle.copy_forms.proofs.BetweenLemmas.{deltas_lead}
use Rattle.register_history.specs.Publications.{trail}
use Rattle.register_history.proofs.SoundTrail.{legal-sound}
use Rattle.leireg_run.proofs.Trails.{few_publications}
use Rattle.leireg_run.proofs.laws.deltas_of_histories_lead_on.Goals as goal

pub returns : goal.returns
returns c = λ office legal. deltas_lead (trail office) (legal-sound office legal) (few_publications office legal)
