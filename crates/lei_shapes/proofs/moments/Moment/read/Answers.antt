use Rattle.std.proofs.Common.{rules}
use Rattle.lei_shapes.proofs.MomentLemmas.{IsMomentRead-by}
use Rattle.lei_shapes.proofs.moments.Moment.read.Goals as goal

pub returns-clause-reads : goal.returns-clause-reads
returns-clause-reads c = IsMomentRead-by c.args.text.now _ (search rules)
