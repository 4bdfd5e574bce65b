use Rattle.std.proofs.Common.{◌≡◌, ◌++◌, ◌≤◌, map}
use Rattle.register_demo.specs.Bodies.{demo_item_text, elements, from_to}
use Rattle.register_demo.proofs.bodies.put_items.Given as goal

-- what was appended, followed by the items that are left, is everything
abbrev pub invariant-loop-i : goal.invariant-loop-i
invariant-loop-i l = (l.i ≤ l.last)
    × (l.out.items ++ elements (map (demo_item_text l.group l.manager) (from_to l.i l.last))
    ≡ l.fn.out.items ++ elements (map (demo_item_text l.group l.manager) (from_to l.fn.first l.last)))
