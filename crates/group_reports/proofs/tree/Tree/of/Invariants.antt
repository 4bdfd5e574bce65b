use Rattle.std.proofs.Common.{◌≤◌}
use Rattle.group_reports.proofs.ChildLemmas.{LinkedFrom}
use Rattle.group_reports.proofs.tree.Tree.of.Given as goal

-- the children at a place and after it are linked
abbrev pub invariant-loop-child : goal.invariant-loop-child
invariant-loop-child l = record {
  few : l.child ≤ l.count;
  linked : LinkedFrom l.parents.items l.child l.firsts.items l.nexts.items;
}
