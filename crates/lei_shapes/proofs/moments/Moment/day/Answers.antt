use Rattle.std.proofs.Common.{◌∙◌, rules}
use Rattle.lei_shapes.proofs.MomentLemmas.{day-clock}
use Rattle.lei_shapes.proofs.moments.Moment.day.Goals as goal

pub returns-clause-civil : goal.returns-clause-civil
returns-clause-civil c clock shows = (day-clock clock c.args.self shows).0 ∙ search rules
