use Rattle.register_history.specs.Publications.{trail}
use Rattle.register_history.proofs.SoundTrail.{legal-sound}
use Rattle.leireg_run.proofs.Trails.{few_publications}
use Rattle.leireg_run.proofs.laws.mirrors_show_copies_of_histories.Goals as goal

pub returns : goal.returns
returns c = λ office legal before after status answers.
    answers.follows (trail office) (legal-sound office legal) (few_publications office legal)
