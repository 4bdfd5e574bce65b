use Rattle.std.proofs.Common.{ℕ, ◌<◌, ◌≡◌, get_or}
use Rattle.register_table.specs.declared.parts.Note.{Note}
use Rattle.register_table.specs.Parts.{ArePartsOfTable, MarksStay, NotesCell, all_marks, lei_marks}
use Rattle.register_table.proofs.freed.hold_keys.Given as goal

-- each key of the notes so far has an LEI
abbrev pub invariant-loop-note : goal.invariant-loop-note
invariant-loop-note l = record {
  cells : l.parts.cells ≡ l.fn.parts.cells;
  parts : ArePartsOfTable l.parts;
  still : MarksStay (all_marks l.fn.parts) (all_marks l.parts);
  held : (k : ℕ) (d : Note) → k < l.note-index → NotesCell (lei_marks l.parts) (get_or l.notes k d);
}
