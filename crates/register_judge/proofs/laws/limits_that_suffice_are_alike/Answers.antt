use Rattle.register_judge.proofs.LimitLemmas.{plan-taken, take-fits}
use Rattle.register_judge.proofs.TakingLemmas.{cells-tell}
use Rattle.register_judge.proofs.laws.limits_that_suffice_are_alike.Goals as goal

pub returns-clause-taken : goal.returns-clause-taken
returns-clause-taken c = λ rules today issuer table small big items sound. take-fits rules today issuer table small big items (cells-tell table sound)

pub returns-clause-agreed : goal.returns-clause-agreed
returns-clause-agreed c = plan-taken
