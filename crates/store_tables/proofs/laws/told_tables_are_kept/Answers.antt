use Rattle.store_tables.proofs.NumberLemmas.{told_are_kept}
use Rattle.store_tables.proofs.laws.told_tables_are_kept.Goals as goal

pub returns : goal.returns
returns c = told_are_kept
