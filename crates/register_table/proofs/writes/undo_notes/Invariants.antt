use Rattle.std.proofs.Common.{◌≡◌, ◌≤◌, length, map, take}
use Rattle.register_table.specs.Parts.{ArePartsOfTable, CanBeUndone, MarksStay, all_marks, note_cell}
use Rattle.register_table.specs.Undos.{cells_before}
use Rattle.register_table.proofs.writes.undo_notes.Given as goal

-- the notes that are left can be put back, and give the same cells as all notes
abbrev pub invariant-loop-left : goal.invariant-loop-left
invariant-loop-left l = record {
  inside : l.left ≤ length l.notes;
  told : cells_before (map note_cell (take l.left l.notes)) l.parts.cells ≡ cells_before (map note_cell l.fn.notes) l.fn.parts.cells;
  parts : ArePartsOfTable l.parts;
  undoable : CanBeUndone (all_marks l.parts) (take l.left l.notes) l.parts.cells;
  noted : MarksStay (all_marks l.fn.parts) (all_marks l.parts);
}

abbrev pub decreases-loop-left : goal.decreases-loop-left
decreases-loop-left l = l.left
