use Rattle.register_history.proofs.KeptLemmas.{tables-one}
use Rattle.register_history.proofs.laws.kept_tables_are_one.Goals as goal

pub returns : goal.returns
returns c = tables-one
