use Rattle.register_judge.proofs.TakingLemmas.{take-written}
use Rattle.register_judge.proofs.laws.writes_make_the_table.Goals as goal

pub returns : goal.returns
returns c = take-written
