use Rattle.register_judge.proofs.ChainLemmas.{take-fits_rules}
use Rattle.register_judge.proofs.laws.items_keep_to_their_rules.Goals as goal

pub returns : goal.returns
returns c = take-fits_rules
