use Rattle.register_history.proofs.TableLemmas.{have_the_rows}
use Rattle.register_history.proofs.laws.cells_have_the_rows.Goals as goal

pub returns : goal.returns
returns c = have_the_rows
