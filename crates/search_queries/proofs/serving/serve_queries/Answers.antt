use Rattle.std.proofs.Common.{None, refl}
use Rattle.request_loop.specs.Serving.{progress}
use Rattle.search_queries.proofs.Fitting.{search_fits, served, served_whole}
use Rattle.search_queries.proofs.serving.serve_queries.Goals as goal

pub serve-requires-clause-fits : goal.serve-requires-clause-fits
serve-requires-clause-fits g c = search_fits

pub returns-clause-serves : goal.returns-clause-serves
returns-clause-serves g c state held =
    let written = g.W.Wire.written in
    let left = g.W.Wire.left in
    served c.args.searcher.now.form c.args.intake.most (progress c.args.searcher.now None (written c.args.link.now))
    (progress c.serve.new.who None (written c.serve.new.link)) (left c.args.link.now)
    (left c.serve.new.link) c.serve.result
    state refl held c.serve.ensures.serves

pub returns-clause-complete : goal.returns-clause-complete
returns-clause-complete g c state held bytes told no_want no_read no_write =
    let written = g.W.Wire.written in
    let left = g.W.Wire.left in
    served_whole c.args.searcher.now.form c.args.intake.most
    (progress c.args.searcher.now None (written c.args.link.now))
    (progress c.serve.new.who None (written c.serve.new.link)) (left c.args.link.now)
    (left c.serve.new.link) c.serve.result
    state bytes refl held c.serve.ensures.serves (c.serve.ensures.complete bytes told no_want no_read no_write)
