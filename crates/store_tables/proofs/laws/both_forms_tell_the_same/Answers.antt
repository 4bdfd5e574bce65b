use Rattle.store_tables.proofs.LawLemmas.{both_forms}
use Rattle.store_tables.proofs.laws.both_forms_tell_the_same.Goals as goal

pub returns : goal.returns
returns c = both_forms
