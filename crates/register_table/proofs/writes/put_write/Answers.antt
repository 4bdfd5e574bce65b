use Rattle.register_table.specs.Cells.{cell_in}
use Rattle.register_table.proofs.NoteLemmas.{back-pushed, can-pushed, can-still, slot_kept}
use Rattle.register_table.proofs.writes.put_write.Goals as goal

pub put-requires-clause-kept : goal.put-requires-clause-kept
put-requires-clause-kept c =
    slot_kept c.args.entry c.args.write.now c.in_ok-slot.slot c.args.parts.now.cells c.in_ok-slot.ensures.0 c.in_ok-slot.ensures.1 c.requires.own c.requires.kept

pub returns-in_err-out-clause-undoable : goal.returns-in_err-out-clause-undoable
returns-in_err-out-clause-undoable c =
    can-still c.args.notes.now.items _ _ c.args.parts.now.cells c.put.new.parts.cells c.in_err-out.ensures.taken c.in_err-out.ensures.err c.requires.undoable

pub returns-clause-back : goal.returns-clause-back
returns-clause-back c =
    back-pushed c.args.parts.now c.put.new.parts c.args.notes.now.items c.push_reserved.new.self.items (record { key = c.args.write.now.0; slot = c.in_ok-out.out }) (cell_in c.in_ok-slot.slot)
    c.requires.parts c.requires.undoable c.in_ok-out.ensures.taken c.in_ok-out.ensures.cells c.in_ok-out.ensures.own c.in_ok-out.ensures.out c.push_reserved.ensures.items

pub returns-clause-undoable : goal.returns-clause-undoable
returns-clause-undoable c =
    can-pushed c.args.parts.now c.put.new.parts c.args.notes.now.items c.push_reserved.new.self.items (record { key = c.args.write.now.0; slot = c.in_ok-out.out }) (cell_in c.in_ok-slot.slot)
    c.requires.parts c.requires.undoable c.in_ok-out.ensures.taken c.in_ok-out.ensures.cells c.in_ok-out.ensures.own c.in_ok-out.ensures.out c.push_reserved.ensures.items
