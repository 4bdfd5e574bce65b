use Rattle.std.proofs.Common.{◌-◌, ◌≤◌, length}
use Rattle.group_reports.proofs.PlaceLemmas.{AreLess, AreMore}
use Rattle.group_reports.proofs.finding.find.Given as goal

-- the LEIs before one place are less, and those at another place and after it are greater
abbrev pub invariant-loop-low : goal.invariant-loop-low
invariant-loop-low l = record {
  within : l.high ≤ length l.leis;
  ordered : l.low ≤ l.high;
  less : AreLess l.leis l.lei l.low;
  more : AreMore l.leis l.lei l.high;
}

abbrev pub decreases-loop-low : goal.decreases-loop-low
decreases-loop-low l = l.high - l.low
