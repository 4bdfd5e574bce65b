use Rattle.fetched_cells.proofs.LawLemmas.{needed_fetched}
use Rattle.fetched_cells.proofs.laws.needed_cells_are_fetched.Goals as goal

pub returns : goal.returns
returns c = λ rules cells item key. needed_fetched cells key rules item
