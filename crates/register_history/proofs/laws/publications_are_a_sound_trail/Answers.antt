use Rattle.register_history.proofs.SoundTrail.{legal-sound}
use Rattle.register_history.proofs.laws.publications_are_a_sound_trail.Goals as goal

pub returns : goal.returns
returns c = legal-sound
