use Rattle.register_demo.proofs.Items.{relationship-put}
use Rattle.register_demo.proofs.bodies.put_relationship.Goals as goal

pub returns : goal.returns
returns c =
    relationship-put c.args.i c.args.manager.now c.args.out.now.items c.put_all.new.out.items c.put_code.new.out.items c.put_all-2.new.out.items
    c.put_code-2.new.out.items c.put_all-3.new.out.items
    c.in_ok-put_all.ensures c.in_ok-put_code.ensures c.in_ok-put_all-2.ensures c.in_ok-put_code-2.ensures c.in_ok-put_all-3.ensures
