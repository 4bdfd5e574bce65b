use Rattle.std.proofs.Common.{◌≡◌, ◌-◌, get_or, map, rules, set, subst, sym, take, ap, ◌∙◌}
use Rattle.std.proofs.lemmas.List.{take-set}
use Rattle.register_table.specs.Parts.{CanBeUndone, all_marks, note_cell}
use Rattle.register_table.specs.Undos.{cells_before}
use Rattle.register_table.proofs.NoteLemmas.{can-popped, last_left, last_note, stays-more, undone-popped}
use Rattle.register_table.proofs.writes.undo_notes.Goals as goal

pub undo_note-requires-clause-kept : goal.undo_note-requires-clause-kept
undo_note-requires-clause-kept c =
    let notes = c.loop-left.notes in
    let left = c.loop-left.left in
    let note = c.index-notes-left.result in
    (last_note c.loop-left.parts (take (left - 1) notes) (take left notes) (get_or notes (left - 1) note) c.loop-left.invariant.undoable
    (last_left notes left note c.loop-left-test.true c.loop-left.invariant.inside)).kept

pub undo_note-requires-clause-here : goal.undo_note-requires-clause-here
undo_note-requires-clause-here c =
    let notes = c.loop-left.notes in
    let left = c.loop-left.left in
    let note = c.index-notes-left.result in
    (last_note c.loop-left.parts (take (left - 1) notes) (take left notes) (get_or notes (left - 1) note) c.loop-left.invariant.undoable
    (last_left notes left note c.loop-left-test.true c.loop-left.invariant.inside)).here

pub loop-left-preserved : goal.loop-left-preserved
loop-left-preserved c =
    let parts = c.loop-left.parts in
    let new = c.undo_note.new.parts in
    let notes = c.loop-left.notes in
    let left = c.loop-left.left in
    let note = get_or notes (left - 1) c.index-notes-left.result in
    let inv = c.loop-left.invariant in
    let last = last_left notes left c.index-notes-left.result c.loop-left-test.true inv.inside in
    let front : take (left - 1) (set notes (left - 1) c.undo_note.new.note) ≡ take (left - 1) notes = take-set notes (left - 1) c.undo_note.new.note in
    record {
      inside = search rules;
      told = ap (λ ns. cells_before (map note_cell ns) new.cells) front
          ∙ (undone-popped parts (take (left - 1) notes) (take left notes) note inv.undoable last new c.undo_note.ensures.cells ∙ inv.told);
      parts = c.undo_note.ensures.parts;
      undoable = subst (λ ns. CanBeUndone (all_marks new) ns new.cells) (sym front)
          (can-popped parts (take (left - 1) notes) (take left notes) note inv.undoable last new c.undo_note.ensures.noted c.undo_note.ensures.cells);
      noted = stays-more _ _ _ inv.noted c.undo_note.ensures.noted;
    }
