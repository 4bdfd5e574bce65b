use Rattle.authority_rules.proofs.SoundLemmas.{IsSoundTable-put_exception}
use Rattle.relation_rules.proofs.laws.exceptions_keep_tables_sound.Goals as goal

pub returns : goal.returns
returns c = IsSoundTable-put_exception
