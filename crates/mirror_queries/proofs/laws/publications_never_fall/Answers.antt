use Rattle.mirror_queries.proofs.Steps.{session_rises}
use Rattle.mirror_queries.proofs.laws.publications_never_fall.Goals as goal

pub returns : goal.returns
returns c = session_rises
