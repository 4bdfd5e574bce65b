use Rattle.std.proofs.Common.{◌≡◌, ◌≤◌, ◌-◌, [], length, take, drop}
use Rattle.line_reading.specs.Lines.{HasNoEnd}
use Rattle.line_reading.specs.LineFrames.{GathersRefused}
use Rattle.line_reading.proofs.framing.gather.Given as goal

abbrev pub invariant-loop-end : goal.invariant-loop-end
invariant-loop-end l = record {
  within : l.used ≤ length l.held;
  nothing : l.used ≡ 0 → l.refusals ≡ [];
  seen : l.seen ≤ length (drop l.used l.held);
  unseen : HasNoEnd (take l.fn.seen l.held) → HasNoEnd (take l.seen (drop l.used l.held));
  gathers : HasNoEnd (take l.fn.seen l.held) → GathersRefused l.held (drop l.used l.held) l.refusals;
}

abbrev pub decreases-loop-end : goal.decreases-loop-end
decreases-loop-end l = length l.held - l.used
