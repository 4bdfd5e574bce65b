use Rattle.std.proofs.Common.{[]}
use Rattle.request_loop.proofs.Giving.{ClockGives-none}
use Rattle.search_queries.proofs.Taking.{find_step, take_step}
use Rattle.search_queries.proofs.searcher.SearcherAnswers.answer.Goals as goal

pub returns-in-Query : goal.returns-in-Query
returns-in-Query g c = (
  [],
  ClockGives-none (g.C.Clock.given c.args._clock.now),
  find_step c.args.self.now c.args.asked.now c.in-Query.query c.find.result c.in-Query.is c.find.ensures,
)

pub returns-in-Packet : goal.returns-in-Packet
returns-in-Packet g c = (
  [],
  ClockGives-none (g.C.Clock.given c.args._clock.now),
  take_step c.args.self.now c.take.new.self c.args.asked.now c.in-Packet.packet c.as_slice.result.now c.take.result
      c.in-Packet.is c.as_slice.ensures c.take.ensures.form c.take.ensures.counts c.take.ensures.takes,
)
