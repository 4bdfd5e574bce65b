use Rattle.std.proofs.Common.{[]}
use Rattle.request_loop.proofs.Giving.{ClockGives-none}
use Rattle.mirror_queries.proofs.Fitting.{show_step}
use Rattle.mirror_queries.proofs.server.MirrorServerAnswers.answer.Goals as goal

pub returns-in-Query : goal.returns-in-Query
returns-in-Query g c = (
  [],
  ClockGives-none (g.C.Clock.given c.args._clock.now),
  show_step c.args.self.now c.args.asked.now c.in-Query.query c.show.result c.in-Query.is c.show.ensures,
)
