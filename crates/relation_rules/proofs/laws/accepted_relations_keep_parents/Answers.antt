use Rattle.relation_rules.proofs.ChainLemmas.{keeps_parents}
use Rattle.relation_rules.proofs.laws.accepted_relations_keep_parents.Goals as goal

pub returns : goal.returns
returns c = keeps_parents
