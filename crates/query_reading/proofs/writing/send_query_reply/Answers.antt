use Rattle.std.proofs.Common.{List, ℕ, ◌++◌, subst}
use Rattle.request_loop.specs.Wires.{IsSent}
use Rattle.query_reading.specs.Replies.{query_bytes}
use Rattle.line_reading.proofs.Sending.{sends_rest}
use Rattle.query_reading.proofs.writing.send_query_reply.Goals as goal

pub returns-clause-sent : goal.returns-clause-sent
returns-clause-sent g c =
    let written = g.L.Wire.written in
    let W : List ℕ → Type 0 = λ held. IsSent (written c.args.link.now) (written c.flush.new.link)
    (held ++ query_bytes c.args.reply.now) c.flush.result in
    subst W c.requires.none
    (sends_rest (written c.args.link.now) (written c.put_reply.new.link) (written c.flush.new.link)
    (c.args.buffer.now ++ query_bytes c.args.reply.now) c.put_reply.new.buffer c.flush.result
    c.in_ok-put_reply.ensures.puts c.flush.ensures.sent)
