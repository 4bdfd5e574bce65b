use Rattle.std.proofs.Common.{sym}
use Rattle.mirror_queries.proofs.Large.{large-no_text}
use Rattle.mirror_queries.proofs.sizes.read_large.Goals as goal

pub returns-in-Err : goal.returns-in-Err
returns-in-Err c = sym (large-no_text c.args.word.now c.in-Err.ensures.cases.0)
