use Rattle.authority_rules.proofs.PutLemmas.{IsSoundTable-put}
use Rattle.authority_rules.proofs.laws.free_records_keep_tables_sound.Goals as goal

pub returns : goal.returns
returns c = IsSoundTable-put
