use Rattle.lei_outside.proofs.Faulting.{fails_later}
use Rattle.request_loop.proofs.Sending.{sent_then}
use Rattle.issuer_http.proofs.responses.send_both.Goals as goal

pub returns-in-Ok-clause-sent : goal.returns-in-Ok-clause-sent
returns-in-Ok-clause-sent g c =
    sent_then _ _ _ c.args.first.now c.args.second.now c.send_piece-in-Ok.result c.in-Ok.ensures.sent
    c.send_piece-in-Ok.ensures.sent

pub returns-in-Ok-clause-failed : goal.returns-in-Ok-clause-failed
returns-in-Ok-clause-failed g c fails =
    fails_later _ _ _ _ _ (c.in-Ok.ensures.kept (λ is. cc)) (c.send_piece-in-Ok.ensures.failed fails)
