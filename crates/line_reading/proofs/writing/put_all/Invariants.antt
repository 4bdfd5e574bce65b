use Rattle.std.proofs.Common.{◌≡◌, ◌++◌, take, flat_map}
use Rattle.line_reading.specs.WriteBuffer.{Sends}
use Rattle.line_reading.proofs.writing.put_all.Given as goal

abbrev pub invariant-loop-piece : goal.invariant-loop-piece
invariant-loop-piece g l =
    let wire = g.L.Wire in
    record {
      sent : Sends (wire.written l.fn.link) (wire.written l.link)
          (l.fn.buffer ++ flat_map (λ piece. piece.now) (take l.piece-index l.pieces)) l.buffer;
      kept : wire.write_faults l.link ≡ wire.write_faults l.fn.link;
      left : wire.left l.link ≡ wire.left l.fn.link;
      read_count : wire.read_faults l.link ≡ wire.read_faults l.fn.link;
      wire : wire.lends_same l.fn.link l.link;
    }
