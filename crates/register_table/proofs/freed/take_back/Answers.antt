use Rattle.register_table.specs.Parts.{all_marks, lei_marks}
use Rattle.register_table.proofs.NoteLemmas.{each-still, lei_marks-noted, stays-more}
use Rattle.register_table.proofs.freed.take_back.Goals as goal

pub returns-clause-before : goal.returns-clause-before
returns-clause-before c =
    let held = c.hold_keys.new.parts in
    let new = c.drop_freed.new.parts in
    each-still c.args.before.now (lei_marks held) (all_marks new) (stays-more (lei_marks held) (lei_marks new) (all_marks new) c.drop_freed.ensures.taken (lei_marks-noted new)) c.hold_keys.ensures.held
