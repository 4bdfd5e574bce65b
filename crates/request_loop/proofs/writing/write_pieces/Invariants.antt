use Rattle.std.proofs.Common.{◌≡◌, take, flat_map}
use Rattle.lei_outside.specs.Told.{Grows}
use Rattle.request_loop.proofs.writing.write_pieces.Given as goal

abbrev pub invariant-loop-piece : goal.invariant-loop-piece
invariant-loop-piece g l =
    let written = g.W.Sink.written in
    let faults = g.W.Sink.faults in
    record {
      sent : Grows (written l.fn.out) (written l.out) (flat_map (λ piece. piece.now) (take l.piece-index l.pieces));
      kept : faults l.out ≡ faults l.fn.out;
    }
