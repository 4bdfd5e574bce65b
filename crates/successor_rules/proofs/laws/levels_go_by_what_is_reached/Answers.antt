use Rattle.successor_rules.proofs.ReachLemmas.{near-tells}
use Rattle.successor_rules.proofs.laws.levels_go_by_what_is_reached.Goals as goal

pub returns : goal.returns
returns c = near-tells
