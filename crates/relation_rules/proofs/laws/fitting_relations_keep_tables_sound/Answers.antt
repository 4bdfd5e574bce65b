use Rattle.relation_rules.proofs.PutLemmas.{IsSoundTable-put_relation}
use Rattle.relation_rules.proofs.laws.fitting_relations_keep_tables_sound.Goals as goal

pub returns : goal.returns
returns c = IsSoundTable-put_relation
