use Rattle.std.proofs.Common.{sym, ◌∙◌}
use Rattle.issuer_http.proofs.Sending.{ok_of, refusal_sent}
use Rattle.issuer_http.proofs.responses.send_refusal.Goals as goal

pub returns-clause-sent : goal.returns-clause-sent
returns-clause-sent g c =
    let words = ok_of _ c.write_words.result (sym c.is_err.ensures.value ∙ c.if-is_err.false) c.write_words.ensures in
    refusal_sent _ _ c.args.last c.args.refusal _ _ _ _ c.send.result c.status_code.ensures
    (c.deref.ensures.value ∙ words) (c.len.ensures ∙ sym c.deref.ensures.len) c.methods_in.ensures c.send.ensures.sent
