use Rattle.std.proofs.Common.{refl}
use Rattle.upload_format.proofs.InThreads.{made_all, made_more}
use Rattle.upload_format.proofs.threads.map_one_by_one.Goals as goal

pub loop-item-preserved : goal.loop-item-preserved
loop-item-preserved g c =
    rw c.in_ok-push.ensures.items
    (made_more _ c.args.items.now c.loop-item.item-index c.item-item.result c.in_ok-work.field-0 c.loop-item.made.items c.loop-item-test.true c.item-item.is
    (record { shown = _; shows = refl; says = record { met = c.in_ok-work.ensures } }) c.loop-item.invariant)

pub returns : goal.returns
returns g c = made_all _ c.args.items.now c.loop-item.item-index c.loop-item.made.items c.loop-item-test.false c.loop-item.invariant
