use Rattle.std.proofs.Common.{◌≡◌, ◌≤◌, drop, length, map, vec_capacity, vec_len}
use Rattle.register_table.specs.Held.{rows}
use Rattle.register_table.specs.Parts.{ArePartsOfTable, CanBeUndone, MarksStay, all_marks, lei_marks, note_cell}
use Rattle.register_table.specs.Undos.{AreOwn, StaysKept, cells_before, touch_all}
use Rattle.register_table.proofs.writes.put_writes.Given as goal

-- the remaining writes put into the cells so far give all writes put into the first cells, and the notes lead back to
-- the first cells
abbrev pub invariant-loop-write : goal.invariant-loop-write
invariant-loop-write l =
    let rest = drop l.write-index l.writes in
    record {
      put : touch_all l.entry rest l.parts.cells ≡ touch_all l.entry l.writes l.fn.parts.cells;
      own : AreOwn rest;
      kept : StaysKept rest (rows l.parts.cells);
      parts : ArePartsOfTable l.parts;
      back : cells_before (map note_cell l.notes.items) l.parts.cells ≡ l.fn.parts.cells;
      undoable : CanBeUndone (lei_marks l.parts) l.notes.items l.parts.cells;
      noted : MarksStay (all_marks l.fn.parts) (all_marks l.parts);
      room : length l.writes ≤ vec_capacity l.notes;
      len : vec_len l.notes ≤ l.write-index;
    }
