use Rattle.std.proofs.Common.{ℕ, ◌<◌, ◌≡◌, get_or}
use Rattle.register_table.specs.declared.parts.Note.{Note}
use Rattle.register_table.specs.Held.{rows}
use Rattle.register_table.specs.Parts.{ArePartsOfTable, IsNoteWithin, MarksStay, all_marks, held_by, lei_marks}
use Rattle.register_table.proofs.freed.free_keys.Given as goal

-- each key of the notes so far that has an LEI is held by a row
abbrev pub invariant-loop-note : goal.invariant-loop-note
invariant-loop-note l = record {
  cells : l.parts.cells ≡ l.fn.parts.cells;
  parts : ArePartsOfTable l.parts;
  still : MarksStay (all_marks l.fn.parts) (all_marks l.parts);
  fewer : MarksStay (lei_marks l.parts) (lei_marks l.fn.parts);
  left : (k : ℕ) (d : Note) → k < l.note-index → IsNoteWithin (lei_marks l.parts) (held_by (rows l.fn.parts.cells)) (get_or l.notes k d);
}
