use Rattle.relation_rules.proofs.ApartLemmas.{exceptions_keep_apart, relations_keep_apart}
use Rattle.relation_rules.proofs.laws.accepted_items_keep_apart.Goals as goal

pub returns-clause-relations : goal.returns-clause-relations
returns-clause-relations c = relations_keep_apart

pub returns-clause-exceptions : goal.returns-clause-exceptions
returns-clause-exceptions c = λ table office item apart passes. exceptions_keep_apart table office item.0 item.1 apart passes
