use Rattle.issuer_http.proofs.Faults.{unasked}
use Rattle.issuer_http.proofs.Offices.{unbegun}
use Rattle.issuer_http.proofs.serving.serve_alone.Goals as goal

pub returns-in-Err-clause-serves : goal.returns-in-Err-clause-serves
returns-in-Err-clause-serves g c = unbegun _ _

pub returns-in-Err-clause-faults : goal.returns-in-Err-clause-faults
returns-in-Err-clause-faults g c = unasked _ _
