use Rattle.lei_outside.specs.Links.{link_told}
use Rattle.request_loop.proofs.Completing.{completes}
use Rattle.request_loop.proofs.Failing.{fails_rose}
use Rattle.request_loop.proofs.serving.serve.Goals as goal

pub returns-clause-complete : goal.returns-clause-complete
returns-clause-complete g c bytes told no_want no_read no_write =
    let all = link_told g.L.Wire.left g.L.Wire.written in
    let made = c.serve_on.ensures in
    completes g.A.Answers.step g.F.Framing.rules c.args.intake.most _ _ _ _ _ bytes g.met.F.Framing.whole_on told made.serves
    (λ is. no_read (fails_rose all g.L.Wire.read_faults _ _ (made.reads.last is)))
    (λ is. no_write (fails_rose all g.L.Wire.write_faults _ _ (made.writes.last is))) no_want
