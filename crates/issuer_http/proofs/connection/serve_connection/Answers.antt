use Rattle.request_loop.specs.Serving.{progress}
use Rattle.issuer_http.proofs.Callers.{comes_back, completes_back, unbegun_back}
use Rattle.issuer_http.proofs.Faults.{unasked}
use Rattle.issuer_http.proofs.connection.serve_connection.Goals as goal

pub returns-in-Ok-clause-serves : goal.returns-in-Ok-clause-serves
returns-in-Ok-clause-serves g c =
    let given = g.C.Clock.given in
    let written = g.L.Link.written in
    let served = c.serve_caller-ended in
    comes_back (progress c.args.caller (given c.args.clock.now) (written c.args.link.now)) served.new.caller c.into_pass.result
    (given served.new.clock) (written served.new.link) _ _ served.result c.into_pass.ensures served.ensures.serves

pub returns-in-Ok-clause-complete : goal.returns-in-Ok-clause-complete
returns-in-Ok-clause-complete g c bytes told no_want no_read no_write =
    let given = g.C.Clock.given in
    let written = g.L.Link.written in
    let served = c.serve_caller-ended in
    completes_back (progress c.args.caller (given c.args.clock.now) (written c.args.link.now)) served.new.caller c.into_pass.result
    (given served.new.clock) (written served.new.link) bytes served.result c.into_pass.ensures
    (served.ensures.complete bytes told no_want no_read no_write)

pub returns-in-Err-clause-serves : goal.returns-in-Err-clause-serves
returns-in-Err-clause-serves g c = unbegun_back _ _ _ _ _ c.into_pass-in-Err.ensures

pub returns-in-Err-clause-faults : goal.returns-in-Err-clause-faults
returns-in-Err-clause-faults g c = unasked _ _
