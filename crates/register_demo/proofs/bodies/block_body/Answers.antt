use Rattle.std.proofs.Common.{rules, map}
use Rattle.std.proofs.lemmas.List.{append-nil}
use Rattle.register_demo.specs.Bodies.{block_body, body_start, demo_item_text, elements, from_to}
use Rattle.register_demo.specs.Codes.{manager}
use Rattle.register_demo.specs.Plan.{first_item, last_item}
use Rattle.register_demo.proofs.Items.{body-put}
use Rattle.register_demo.proofs.bodies.block_body.Goals as goal

pub returns : goal.returns
unfolding block_body
returns c =
    body-put c.put_all.new.out.items c.put_items.new.out.items c.in_ok-body.body (body_start c.args.group)
    (elements (map (demo_item_text c.args.group (manager c.args.block)) (from_to (first_item c.args.group c.args.block) (last_item c.args.n c.args.block))))
    (search (rules, append-nil)) (search rules) (search rules)
