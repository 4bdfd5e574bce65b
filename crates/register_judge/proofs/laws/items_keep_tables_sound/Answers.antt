use Rattle.register_judge.proofs.TakingLemmas.{take-sound}
use Rattle.register_judge.proofs.laws.items_keep_tables_sound.Goals as goal

pub returns : goal.returns
returns c = take-sound
