use Rattle.std.proofs.Common.{map, take}
use Rattle.lei_records.specs.declared.view.CellKey.{CellKey}
use Rattle.cell_reads.specs.Notes.{NotesCells}
use Rattle.cell_reads.proofs.noting.note_records.Given as goal

-- the records before this one were noted
abbrev pub invariant-loop-lei : goal.invariant-loop-lei
invariant-loop-lei g l = NotesCells (g.V.View.cells l.view) l.fn.noted l.noted (map CellKey.Rec (take l.lei-index l.leis))
