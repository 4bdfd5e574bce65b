use Rattle.std.proofs.Common.{◌≡◌, ◌+◌, arith, map, rules, ap, subst, sym, ◌∙◌}
use Rattle.register_table.specs.Held.{rows}
use Rattle.register_table.specs.Parts.{all_marks, lei_marks, note_cell}
use Rattle.register_table.specs.Stamps.{AreStamped, StampsDontFall}
use Rattle.register_table.specs.Undos.{IsLater, cells_before, touch_all}
use Rattle.register_table.proofs.HoldLemmas.{all_last, can_again}
use Rattle.register_table.proofs.KeptLemmas.{later_all, later_more}
use Rattle.register_table.proofs.NoteLemmas.{can-still, can_undo, if_weaker, stays-more}
use Rattle.register_table.proofs.RowsLemmas.{rows-touch_all}
use Rattle.register_table.proofs.table.Table.apply.Goals as goal

pub returns-in-Ok-clause-rows : goal.returns-in-Ok-clause-rows
returns-in-Ok-clause-rows c =
    let held : c.drop_freed.new.parts.cells ≡ touch_all c.args.entry c.args.writes.now c.args.self.now.held = search rules in
    ap rows held ∙ rows-touch_all c.args.entry c.args.writes.now c.args.self.now.held c.requires.may.own

pub returns-in-Ok-clause-numbers : goal.returns-in-Ok-clause-numbers
returns-in-Ok-clause-numbers c =
    let held : c.drop_freed.new.parts.cells ≡ touch_all c.args.entry c.args.writes.now c.args.self.now.held = search rules in
    subst (IsLater (c.args.entry + 1)) (sym held)
    (later_all c.args.entry (c.args.entry + 1) c.args.writes.now c.args.self.now.held
    (later_more c.args.entry (c.args.entry + 1) c.args.self.now.held (omega arith) c.requires.later) (omega arith))

pub take_back-requires-clause-undoable : goal.take_back-requires-clause-undoable
take_back-requires-clause-undoable c = can_undo c.put_writes.new.notes.items c.put_writes.new.parts c.put_writes.ensures.undoable

pub take_back-requires-clause-before : goal.take_back-requires-clause-before
take_back-requires-clause-before c =
    let old = c.self.inside.parts in
    let put = c.put_writes.new.parts in
    all_last c.self.inside.last (λ notes. notes.items) c.notes_of-in-Err.result.now (all_marks old) (all_marks put) old.cells c.notes_of-in-Err.ensures.some c.notes_of-in-Err.ensures.none
    (stays-more (all_marks old) (all_marks c.free_keys.new.parts) (all_marks put) c.free_keys.ensures.noted c.put_writes.ensures.noted) c.self.invariant.1

pub invariant_of-self-in-Ok : goal.invariant_of-self-in-Ok
invariant_of-self-in-Ok c =
    let old = c.self.inside.parts in
    let put = c.put_writes.new.parts in
    let new = c.drop_freed.new.parts in
    let notes = c.put_writes.new.notes.items in
    let stamps = c.stamp_writes.new.stamps.items in
    let held : new.cells ≡ touch_all c.args.entry c.args.writes.now old.cells = search rules in
    let back : cells_before (map note_cell notes) new.cells ≡ old.cells =
    ap (cells_before (map note_cell notes)) c.drop_freed.ensures.cells ∙ (c.put_writes.ensures.back ∙ c.free_keys.ensures.cells) in
    let before : AreStamped stamps old.cells = search rules in
    let after : AreStamped stamps (touch_all c.args.entry c.args.writes.now old.cells) = search rules in (
      c.drop_freed.ensures.parts,
      can_undo notes new (can-still notes (lei_marks put) (lei_marks new) put.cells new.cells c.drop_freed.ensures.taken c.drop_freed.ensures.cells c.put_writes.ensures.undoable),
      c.stamp_writes.ensures.order,
      subst (AreStamped stamps) (sym held) after,
      subst (AreStamped stamps) (sym back) before,
    )

pub invariant_of-self-in-Err : goal.invariant_of-self-in-Err
invariant_of-self-in-Err c =
    let old = c.self.inside.parts in
    let new = c.take_back.new.parts in
    let same : new.cells ≡ old.cells = c.take_back.ensures.cells ∙ (c.put_writes.ensures.back ∙ c.free_keys.ensures.cells) in
    let stamps = c.reserve.new.self.items in
    let kept : stamps ≡ c.self.inside.stamps.items = search rules in (
      c.take_back.ensures.parts,
      can_again c.self.inside.last (λ notes. notes.items) c.notes_of-in-Err.result.now (all_marks old) (all_marks new) old.cells new.cells c.notes_of-in-Err.ensures.some
          c.take_back.ensures.before same c.self.invariant.1,
      subst StampsDontFall (sym kept) c.self.invariant.2,
      subst (λ l. AreStamped l new.cells) (sym kept) (subst (AreStamped c.self.inside.stamps.items) (sym same) c.self.invariant.3),
      if_weaker _ _ c.self.inside.last
          (λ notes stamped. subst (λ l. AreStamped l (cells_before (map note_cell notes.items) new.cells)) (sym kept)
          (subst (λ h. AreStamped c.self.inside.stamps.items (cells_before (map note_cell notes.items) h)) (sym same) stamped)) c.self.invariant.4,
    )
