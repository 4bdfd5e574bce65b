use Rattle.std.proofs.Common.{map}
use Rattle.copy_forms.proofs.Passing.{rows-end}
use Rattle.delta_apply.proofs.json.merge.Goals as goal

pub returns : goal.returns
returns c =
    rows-end c.args.rows.now c.args.changes.now (map (λ row. row.now) c.loop-index.held.items) (map (λ row. row.now) c.push_all.new.held.items)
    c.loop-index.index c.loop-index.next c.requires.rows.rising c.requires.changes.rising c.loop-index.invariant.walk c.loop-index-test.false
    c.in_ok-push_all.ensures
