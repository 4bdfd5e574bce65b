use Rattle.std.proofs.Common.{◌≡◌, ◌<◌, ℕ, get_or, length}
use Rattle.group_reports.specs.Places.{stays}
use Rattle.group_reports.proofs.tops.once_up.Given as goal

-- where a step leads from each place so far
abbrev pub invariant-loop-place : goal.invariant-loop-place
invariant-loop-place l = record {
  counted : length l.far.items ≡ l.place;
  within : (place : ℕ) → place < l.place → get_or l.far.items place 0 < length l.parents;
  each : (place : ℕ) → place < l.place → get_or l.far.items place 0 ≡ stays l.parents 1 place;
}
