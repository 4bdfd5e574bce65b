use Rattle.cell_reads.specs.Notes.{NotesCells}
use Rattle.cell_reads.proofs.noting.note_all.Given as goal

-- the cells with the keys before this one were noted
abbrev pub invariant-loop-key : goal.invariant-loop-key
invariant-loop-key g l = NotesCells (g.V.View.cells l.view) l.fn.noted l.noted l.yielded
