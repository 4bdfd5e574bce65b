use Rattle.mirror_queries.proofs.OneReply.{one_reply}
use Rattle.mirror_queries.proofs.laws.queries_have_one_reply.Goals as goal

pub returns : goal.returns
returns c = one_reply
