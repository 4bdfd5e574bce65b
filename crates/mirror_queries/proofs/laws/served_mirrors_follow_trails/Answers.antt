use Rattle.mirror_queries.proofs.Served.{serves_follow}
use Rattle.mirror_queries.proofs.laws.served_mirrors_follow_trails.Goals as goal

pub returns : goal.returns
returns c = serves_follow
