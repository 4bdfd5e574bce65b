use Rattle.std.proofs.Common.{◌≡◌, ◌-◌, ◌+◌, ◌*◌, length}
use Rattle.request_loop.proofs.Ending.{Midway}
use Rattle.request_loop.proofs.serving.serve_on.Given as goal
use Rattle.request_loop.specs.Serving.{progress}

abbrev pub invariant-loop-count : goal.invariant-loop-count
invariant-loop-count g l =
    let given = g.C.Clock.given in
    let written = g.L.Wire.written in
    let left = g.L.Wire.left in
    let read_faults = g.L.Wire.read_faults in
    let write_faults = g.L.Wire.write_faults in
    record {
      midway : Midway g.A.Answers.step g.F.Framing.rules l.intake.most (g.F.Framing.holds l.framing)
          (progress l.fn.who (given l.fn.clock) (written l.fn.link)) (left l.fn.link) (left l.link) l.taken
          (progress l.who (given l.clock) (written l.link)) l.buffer (g.F.Framing.waiting l.framing);
      read_kept : read_faults l.link ≡ read_faults l.fn.link;
      write_kept : write_faults l.link ≡ write_faults l.fn.link;
      wire : g.L.Wire.lends_same l.fn.link l.link;
    }

abbrev pub decreases-loop-count : goal.decreases-loop-count
decreases-loop-count g l = 2 * (l.intake.most - l.taken) + length l.buffer
