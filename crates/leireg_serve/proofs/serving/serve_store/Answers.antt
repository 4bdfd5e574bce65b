use Rattle.std.proofs.Common.{sym, ◌∙◌}
use Rattle.leireg_serve.specs.Desks.{line_tells}
use Rattle.leireg_serve.proofs.Opened.{ends_opened, ends_refused, refused_meant}
use Rattle.leireg_serve.proofs.serving.serve_store.Goals as goal

pub returns-in-Ok-clause-ends : goal.returns-in-Ok-clause-ends
returns-in-Ok-clause-ends g c =
    let opened = c.in-Ok.ensures in
    let tells = line_tells g.D.Line.Link.left g.D.Line.Link.written g.D.Line.Link.read_faults g.D.Line.Link.write_faults in
    ends_opened g.K.Keeper.tables g.K.Keeper.faults tells c.args.keeper c.serve_office.result.1 c.in-Ok.office _ _ c.serve_office.result.0
    (opened.limits ∙ c.standard.ensures.value) opened.legal opened.kept opened.same opened.faultless c.serve_office.ensures

pub returns-in-Err-clause-ends : goal.returns-in-Err-clause-ends
returns-in-Err-clause-ends g c =
    let opened = c.in-Err.ensures in
    let tells = line_tells g.D.Line.Link.left g.D.Line.Link.written g.D.Line.Link.read_faults g.D.Line.Link.write_faults in
    let refused = c.refusal_end-status in
    ends_refused g.K.Keeper.tables g.K.Keeper.faults tells _ c.args.keeper refused.result.1 c.in-Err.fault _ refused.result.0
    c.standard.ensures.value refused.ensures.back opened.refused opened.back opened.failed refused.ensures.status

pub returns-in-Err-clause-meant : goal.returns-in-Err-clause-meant
returns-in-Err-clause-meant g c one = refused_meant c.in-Err.fault (sym c.refusal_end-status.ensures.status ∙ one)
