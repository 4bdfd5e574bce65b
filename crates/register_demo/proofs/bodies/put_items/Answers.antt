use Rattle.std.proofs.Common.{arith, map}
use Rattle.register_demo.specs.Bodies.{demo_item_text, elements, from_to}
use Rattle.register_demo.proofs.Items.{items-end, items-step}
use Rattle.register_demo.proofs.bodies.put_items.Goals as goal

pub loop-i-preserved : goal.loop-i-preserved
loop-i-preserved c =
    let f = demo_item_text c.args.group c.args.manager.now in (
      omega arith,
      items-step f c.loop-i.i c.args.last c.args.out.now.items c.loop-i.out.items c.put_item.new.out.items c.push.new.self.items
          (elements (map f (from_to c.args.first c.args.last))) c.loop-i-test.true c.loop-i.invariant.1 c.in_ok-put_item.ensures c.in_ok-push.ensures.items,
    )

pub returns : goal.returns
returns c =
    let f = demo_item_text c.args.group c.args.manager.now in
    items-end f c.loop-i.i c.args.last c.args.out.now.items c.loop-i.out.items c.put_item-2.new.out.items
    (elements (map f (from_to c.args.first c.args.last))) c.loop-i.invariant.0 (omega arith) c.loop-i.invariant.1 c.in_ok-put_item-2.ensures
