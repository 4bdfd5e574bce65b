use Rattle.store_tables.proofs.NameLemmas.{parts_order}
use Rattle.store_tables.proofs.laws.parts_are_in_the_order_of_names.Goals as goal

pub returns : goal.returns
returns c = parts_order
