use Rattle.std.proofs.Common.{◌≡◌, length}
use Rattle.lei_outside.proofs.Handing.{Handed}
use Rattle.request_loop.proofs.wire.send_piece.Given as goal

abbrev pub invariant-loop-rest : goal.invariant-loop-rest
invariant-loop-rest g l =
    let left = g.L.Wire.left in
    let written = g.L.Wire.written in
    let read_faults = g.L.Wire.read_faults in
    let write_faults = g.L.Wire.write_faults in
    record {
      handed : Handed (written l.initial.link) (written l.link) l.piece l.rest;
      kept : write_faults l.link ≡ write_faults l.initial.link;
      left : left l.link ≡ left l.initial.link;
      read_count : read_faults l.link ≡ read_faults l.initial.link;
      wire : g.L.Wire.lends_same l.initial.link l.link;
    }

abbrev pub decreases-loop-rest : goal.decreases-loop-rest
decreases-loop-rest g l = length l.rest
