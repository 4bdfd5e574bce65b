use Rattle.std.proofs.Common.{[], ◌∷◌}
use Rattle.fetched_cells.proofs.CloseLemmas.{levels_distinct}
use Rattle.fetched_cells.proofs.OrderLemmas.{order-sorted}
use Rattle.fetched_cells.proofs.SameLemmas.{same_levels}
use Rattle.fetched_cells.proofs.laws.nearest_leis_are_those_of_levels.Goals as goal

pub returns-clause-members : goal.returns-clause-members
returns-clause-members c = λ n nexts own lei. same_levels nexts own n lei

pub returns-clause-distinct : goal.returns-clause-distinct
returns-clause-distinct c = λ n nexts own. levels_distinct nexts n (own ∷ []) (own ∷ [])

pub returns-clause-ordered : goal.returns-clause-ordered
returns-clause-ordered c = order-sorted
