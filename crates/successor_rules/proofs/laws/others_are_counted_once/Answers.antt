use Rattle.std.proofs.Common.{◌∷◌, []}
use Rattle.successor_rules.specs.Levels.{levels}
use Rattle.successor_rules.proofs.LevelLemmas.{once-distinct, others-has}
use Rattle.successor_rules.proofs.laws.others_are_counted_once.Goals as goal

pub returns-clause-distinct : goal.returns-clause-distinct
returns-clause-distinct c = λ n nexts own first. once-distinct (own ∷ []) (levels n nexts own first)

pub returns-clause-members : goal.returns-clause-members
returns-clause-members c = others-has
