use Rattle.copy_forms.proofs.NameOrder.{names-rise}
use Rattle.copy_forms.proofs.laws.json_names_rise.Goals as goal

pub returns : goal.returns
returns c = names-rise
