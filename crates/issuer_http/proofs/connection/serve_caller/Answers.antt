use Rattle.request_loop.specs.Serving.{progress}
use Rattle.issuer_http.proofs.Callers.{caller_serves, http_fits_caller}
use Rattle.issuer_http.proofs.connection.serve_caller.Goals as goal

pub serve_by-requires-clause-fits : goal.serve_by-requires-clause-fits
serve_by-requires-clause-fits g c = http_fits_caller _ (record { shared = c.type_bounds.sync-R.shared })

pub returns-clause-serves : goal.returns-clause-serves
returns-clause-serves g c =
    let given = g.C.Clock.given in
    let written = g.L.Link.written in
    let served = c.serve_by in
    caller_serves (progress c.args.caller.now (given c.args.clock.now) (written c.args.link.now))
    (progress served.new.who (given served.new.clock) (written served.new.link)) _ _ served.result served.ensures.serves
