use Rattle.group_reports.proofs.ChildLemmas.{AddsFrom, still}
use Rattle.group_reports.proofs.tree.Tree.add_children.Given as goal

-- together with the children that are left these are all
abbrev pub invariant-loop-left : goal.invariant-loop-left
invariant-loop-left l = AddsFrom l.self l.parent l.root l.left l.fn.children.keys l.children.keys

abbrev pub decreases-loop-left : goal.decreases-loop-left
decreases-loop-left l = still l.self l.left
