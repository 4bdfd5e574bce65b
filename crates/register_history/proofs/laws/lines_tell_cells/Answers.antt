use Rattle.register_history.proofs.CellLines.{tells-cell}
use Rattle.register_history.proofs.laws.lines_tell_cells.Goals as goal

pub returns : goal.returns
returns c = tells-cell
