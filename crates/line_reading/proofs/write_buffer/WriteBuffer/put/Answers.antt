use Rattle.line_reading.proofs.Sending.{sent_after, refused_after}
use Rattle.line_reading.proofs.write_buffer.WriteBuffer.put.Goals as goal

pub returns-then-piece-gt-BLOCK-clause-ok : goal.returns-then-piece-gt-BLOCK-clause-ok
returns-then-piece-gt-BLOCK-clause-ok g c =
    let written = g.L.Wire.written in
    sent_after (written c.args.link.now) (written c.flush.new.link) (written c.send_piece.new.link) c.args.self.now
    c.args.piece.now c.flush.new.self c.send_piece.result c.in_ok-flush.ensures.sent c.in_ok-flush.ensures.empty
    c.send_piece.ensures.sent

pub returns-then-piece-gt-BLOCK-clause-err : goal.returns-then-piece-gt-BLOCK-clause-err
returns-then-piece-gt-BLOCK-clause-err g c =
    let written = g.L.Wire.written in
    refused_after (written c.args.link.now) (written c.flush.new.link) (written c.send_piece.new.link) c.args.self.now
    c.args.piece.now c.send_piece.result c.in_ok-flush.ensures.sent c.send_piece.ensures.sent
