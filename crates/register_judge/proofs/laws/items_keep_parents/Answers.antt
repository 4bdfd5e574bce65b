use Rattle.register_judge.proofs.ParentLemmas.{take-parents}
use Rattle.register_judge.proofs.laws.items_keep_parents.Goals as goal

pub returns : goal.returns
returns c = take-parents
