use Rattle.lei_mirror.proofs.TakingLemmas.{one_taken}
use Rattle.lei_mirror.proofs.laws.packets_are_taken_in_one_way.Goals as goal

pub returns : goal.returns
returns c = one_taken
