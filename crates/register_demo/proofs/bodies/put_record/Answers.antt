use Rattle.register_demo.proofs.Items.{record-put}
use Rattle.register_demo.proofs.bodies.put_record.Goals as goal

pub returns : goal.returns
returns c =
    record-put c.args.i c.args.manager.now c.args.out.now.items c.put_names.new.out.items c.put_code.new.out.items c.put_all.new.out.items
    c.in_ok-put_names.ensures c.in_ok-put_code.ensures c.in_ok-put_all.ensures
