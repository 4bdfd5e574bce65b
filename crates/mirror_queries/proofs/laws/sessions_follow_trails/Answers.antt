use Rattle.mirror_queries.proofs.Steps.{session_follows}
use Rattle.mirror_queries.proofs.laws.sessions_follow_trails.Goals as goal

pub returns : goal.returns
returns c = session_follows
