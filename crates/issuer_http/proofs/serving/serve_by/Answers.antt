use Rattle.issuer_http.proofs.Faults.{reports}
use Rattle.issuer_http.proofs.serving.serve_by.Goals as goal

pub returns-clause-faults : goal.returns-clause-faults
returns-clause-faults g c =
    let made = c.serve-end.ensures in
    reports _ _ _ _ _ c.serve-end.result c.ended_of.result c.ended_of.ensures made.reads.last made.reads.none
    made.writes.last made.writes.none
