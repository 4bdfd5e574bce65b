use Rattle.std.proofs.Common.{◌≡◌, drop}
use Rattle.relation_rules.specs.declared.checked.Checked.{Checked}
use Rattle.register_judge.specs.Judging.{check_each}
use Rattle.register_judge.proofs.records.first_unheld.Given as goal

-- the result for those that are left is the result for all
abbrev pub invariant-loop-lei : goal.invariant-loop-lei
invariant-loop-lei g l = (next : Checked) → check_each (g.V.View.cells l.view) (drop l.lei-index l.leis) next ≡ check_each (g.V.View.cells l.view) l.leis next
