use Rattle.std.proofs.Common.{take}
use Rattle.std.specs.List.{All}
use Rattle.cell_reads.specs.Reads.{HasCell}
use Rattle.cell_reads.proofs.agreeing.has_cells.Given as goal

-- the view has what was read from the cells before this one
abbrev pub invariant-loop-read : goal.invariant-loop-read
invariant-loop-read g l = All (λ read. HasCell (g.V.View.cells l.view) read.0 read.1) (take l.read-index l.reads)
