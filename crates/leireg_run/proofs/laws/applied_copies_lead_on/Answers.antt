use Rattle.register_history.specs.Publications.{trail}
use Rattle.register_history.proofs.SoundTrail.{legal-sound}
use Rattle.leireg_run.proofs.Trails.{applied_lead, few_publications}
use Rattle.leireg_run.proofs.laws.applied_copies_lead_on.Goals as goal

pub returns : goal.returns
returns c = λ office legal. applied_lead (trail office) (legal-sound office legal) (few_publications office legal)
