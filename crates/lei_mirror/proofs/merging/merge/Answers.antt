use Rattle.std.proofs.Common.{◌∙◌}
use Rattle.copy_forms.proofs.Passing.{rows-end}
use Rattle.lei_mirror.proofs.merging.merge.Goals as goal

pub returns : goal.returns
returns c =
    c.in_ok-merged.ensures
    ∙ rows-end c.args.rows.now c.args.changes.now c.loop-index.made.items c.push_all.new.made.items c.loop-index.index c.loop-index.next c.requires.rows.rising
    c.requires.changes.rising c.loop-index.invariant.walk c.loop-index-test.false c.in_ok-push_all.ensures
