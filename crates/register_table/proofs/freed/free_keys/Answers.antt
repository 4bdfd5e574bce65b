use Rattle.std.proofs.Common.{ap, subst, ◌∙◌}
use Rattle.register_table.specs.Held.{rows}
use Rattle.register_table.specs.Parts.{IsNoteWithin, held_by, lei_marks}
use Rattle.register_table.proofs.FreedLemmas.{each_next, note_still}
use Rattle.register_table.proofs.NoteLemmas.{stays-more, stays-same}
use Rattle.register_table.proofs.freed.free_keys.Goals as goal

pub loop-note-preserved : goal.loop-note-preserved
loop-note-preserved c =
    let before = c.loop-note.parts in
    let after = c.free_note.new.parts in
    let inv = c.loop-note.invariant in
    record {
      cells = c.free_note.ensures.cells ∙ inv.cells;
      parts = c.free_note.ensures.parts;
      still = stays-more _ _ _ inv.still c.free_note.ensures.noted;
      fewer = stays-more _ _ _ c.free_note.ensures.fewer inv.fewer;
      left = each_next (IsNoteWithin (lei_marks before) (held_by (rows c.args.parts.now.cells))) (IsNoteWithin (lei_marks after) (held_by (rows c.args.parts.now.cells))) c.args.notes.now c.loop-note.note-index c.note-item.result
          c.loop-note-test.true c.note-item.is (note_still _ _ _ _ c.free_note.ensures.fewer (stays-same _)) (subst (λ t. IsNoteWithin (lei_marks after) (held_by t) c.note-item.result) (ap rows inv.cells) c.free_note.ensures.left) inv.left;
    }
