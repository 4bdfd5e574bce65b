use Rattle.std.proofs.Common.{ℕ, ◌<◌, ◌≡◌, get_or}
use Rattle.register_table.specs.declared.parts.Note.{Note}
use Rattle.register_table.specs.Parts.{ArePartsOfTable, IsNoteWithin, MarksStay, all_marks, lei_marks}
use Rattle.register_table.proofs.freed.drop_freed.Given as goal

-- each key of the notes so far that the indexes still have has an LEI
abbrev pub invariant-loop-note : goal.invariant-loop-note
invariant-loop-note l = record {
  cells : l.parts.cells ≡ l.fn.parts.cells;
  parts : ArePartsOfTable l.parts;
  still : MarksStay (lei_marks l.fn.parts) (lei_marks l.parts);
  fewer : MarksStay (all_marks l.parts) (all_marks l.fn.parts);
  left : (k : ℕ) (d : Note) → k < l.note-index → IsNoteWithin (all_marks l.parts) (lei_marks l.parts) (get_or l.notes k d);
}
