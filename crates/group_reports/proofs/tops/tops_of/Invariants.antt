use Rattle.std.proofs.Common.{◌≡◌, ◌<◌, ℕ, get_or, length}
use Rattle.group_reports.specs.Places.{IsBelow, end_by, step_up}
use Rattle.group_reports.proofs.tops.tops_of.Given as goal

-- where the walk ends from each place so far
abbrev pub invariant-loop-place : goal.invariant-loop-place
invariant-loop-place l = record {
  counted : length l.tops.items ≡ l.place;
  within : (place : ℕ) → IsBelow (length l.parents) (step_up l.tops.items place);
  each : (place : ℕ) → place < l.place → step_up l.tops.items place ≡ end_by l.parents place (get_or l.far.items place 0);
}
