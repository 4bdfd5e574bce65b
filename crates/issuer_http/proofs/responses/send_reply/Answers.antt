use Rattle.std.proofs.Common.{sym, subst}
use Rattle.register_words.specs.declared.reply.Reply.{Reply}
use Rattle.request_loop.specs.Wires.{IsSent}
use Rattle.issuer_http.specs.Responses.{response_bytes}
use Rattle.issuer_http.proofs.Sending.{text_sent}
use Rattle.issuer_http.proofs.responses.send_reply.Goals as goal

pub returns-in-Text-clause-sent : goal.returns-in-Text-clause-sent
returns-in-Text-clause-sent g c =
    text_sent _ _ c.args.last c.args.reply.now _ _ _ _ _ _ c.send.result c.in-Text.is c.content_of.ensures c.len.ensures
    c.as_slice.ensures c.send.ensures.sent

pub returns-in-Words-clause-sent : goal.returns-in-Words-clause-sent
returns-in-Words-clause-sent g c =
    let written = g.L.Wire.written in
    let R : Reply → Type 0 = λ r.
    IsSent (written c.args.link.now) (written c.send_refusal.new.link) (response_bytes c.args.last r) c.send_refusal.result in
    subst R (sym c.in-Words.is) c.send_refusal.ensures.sent
