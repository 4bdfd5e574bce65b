use Rattle.std.proofs.Common.{◌≡◌, ℕ, drop, length}
use Rattle.group_reports.specs.Arcs.{first_end}
use Rattle.group_reports.specs.Places.{step_up}
use Rattle.group_reports.proofs.ArcLemmas.{or_place}
use Rattle.group_reports.proofs.arcs.first_ends.Given as goal

-- what hasn't been found yet is found at this arc or after it
abbrev pub invariant-loop-arc : goal.invariant-loop-arc
invariant-loop-arc l = record {
  counted : length l.ends.items ≡ l.count;
  each : (place : ℕ) → or_place (step_up l.ends.items place) (first_end (drop l.arc-index l.arcs) l.kind place) ≡ first_end l.arcs l.kind place;
}
