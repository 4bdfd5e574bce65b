use Rattle.lei_office.specs.Answering.{with_count}
use Rattle.request_loop.specs.Serving.{progress}
use Rattle.issuer_http.proofs.Offices.{http_fits, office_completes, office_serves}
use Rattle.issuer_http.proofs.serving.serve_with.Goals as goal

pub serve_by-requires-clause-fits : goal.serve_by-requires-clause-fits
serve_by-requires-clause-fits g c =
    http_fits _ (with_count g.K.Keeper.tables g.K.Keeper.faults) (record { shared = c.type_bounds.sync-R.shared })

pub returns-clause-serves : goal.returns-clause-serves
returns-clause-serves g c =
    let given = g.C.Clock.given in
    let written = g.L.Link.written in
    office_serves (with_count g.K.Keeper.tables g.K.Keeper.faults)
    (progress c.args.office.now (given c.args.clock.now) (written c.args.link.now))
    (progress c.serve_by.new.who (given c.serve_by.new.clock) (written c.serve_by.new.link))
    _ _ c.serve_by.result c.serve_by.ensures.serves

pub returns-clause-complete : goal.returns-clause-complete
returns-clause-complete g c bytes told no_want no_read no_write =
    let given = g.C.Clock.given in
    let written = g.L.Link.written in
    office_completes (with_count g.K.Keeper.tables g.K.Keeper.faults)
    (progress c.args.office.now (given c.args.clock.now) (written c.args.link.now))
    (progress c.serve_by.new.who (given c.serve_by.new.clock) (written c.serve_by.new.link))
    c.serve_by.result bytes (c.serve_by.ensures.complete bytes told no_want no_read no_write)
