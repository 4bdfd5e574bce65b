use Rattle.item_fields.proofs.RowLemmas.{one_named}
use Rattle.item_fields.proofs.laws.first_rules_name_one_successor.Goals as goal

pub returns : goal.returns
returns c = one_named
