use Rattle.std.proofs.Common.{◌≡◌, length}
use Rattle.lei_outside.proofs.Handing.{Handed}
use Rattle.lei_outside.proofs.sink.write_all.Given as goal

abbrev pub invariant-loop-rest : goal.invariant-loop-rest
invariant-loop-rest g l =
    let written = g.W.Sink.written in
    let faults = g.W.Sink.faults in
    record { handed : Handed (written l.initial.out) (written l.out) l.piece l.rest; kept : faults l.out ≡ faults l.initial.out }

abbrev pub decreases-loop-rest : goal.decreases-loop-rest
decreases-loop-rest g l = length l.rest
