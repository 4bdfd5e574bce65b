use Rattle.std.proofs.Common.{◌∙◌}
use Rattle.register_table.specs.Parts.{IsNoteWithin, all_marks, lei_marks}
use Rattle.register_table.proofs.FreedLemmas.{each_next, note_still}
use Rattle.register_table.proofs.NoteLemmas.{stays-more}
use Rattle.register_table.proofs.freed.drop_freed.Goals as goal

pub loop-note-preserved : goal.loop-note-preserved
loop-note-preserved c =
    let before = c.loop-note.parts in
    let after = c.drop_note.new.parts in
    let inv = c.loop-note.invariant in
    record {
      cells = c.drop_note.ensures.cells ∙ inv.cells;
      parts = c.drop_note.ensures.parts;
      still = stays-more _ _ _ inv.still c.drop_note.ensures.taken;
      fewer = stays-more _ _ _ c.drop_note.ensures.fewer inv.fewer;
      left = each_next (IsNoteWithin (all_marks before) (lei_marks before)) (IsNoteWithin (all_marks after) (lei_marks after)) c.args.notes.now c.loop-note.note-index c.note-item.result
          c.loop-note-test.true c.note-item.is (note_still _ _ _ _ c.drop_note.ensures.fewer c.drop_note.ensures.taken) c.drop_note.ensures.left inv.left;
    }
