use Rattle.successor_rules.proofs.ClearLemmas.{levels-keep_ends}
use Rattle.successor_rules.proofs.laws.clear_levels_keep_ends.Goals as goal

pub returns : goal.returns
returns c = λ before after own targets all turned ended. levels-keep_ends before own targets ended after all turned
