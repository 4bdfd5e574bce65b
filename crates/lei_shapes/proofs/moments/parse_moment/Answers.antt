use Rattle.std.proofs.Common.{rules}
use Rattle.lei_shapes.proofs.MomentLemmas.{read_moment-is}
use Rattle.lei_shapes.proofs.moments.parse_moment.Goals as goal

pub returns-in_err-instant-clause-value : goal.returns-in_err-instant-clause-value
returns-in_err-instant-clause-value c = read_moment-is c.args.text.now c.from_residual.result (search rules)

pub returns-clause-value : goal.returns-clause-value
returns-clause-value c = read_moment-is c.args.text.now c.of.result (search rules)
