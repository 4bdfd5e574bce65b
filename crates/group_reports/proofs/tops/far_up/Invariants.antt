use Rattle.std.proofs.Common.{◌-◌, ◌≤◌}
use Rattle.group_reports.specs.Places.{LeadsFar}
use Rattle.group_reports.proofs.tops.far_up.Given as goal

-- it is known where this many steps lead
abbrev pub invariant-loop-steps : goal.invariant-loop-steps
invariant-loop-steps l = record {
  some : 1 ≤ l.steps;
  leads : LeadsFar l.parents l.steps l.far.items;
}

abbrev pub decreases-loop-steps : goal.decreases-loop-steps
decreases-loop-steps l = l.least - l.steps
