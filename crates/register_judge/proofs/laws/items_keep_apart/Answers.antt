use Rattle.register_judge.proofs.ParentLemmas.{take-apart}
use Rattle.register_judge.proofs.laws.items_keep_apart.Goals as goal

pub returns : goal.returns
returns c = take-apart
