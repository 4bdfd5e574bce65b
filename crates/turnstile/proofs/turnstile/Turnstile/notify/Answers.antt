use Rattle.std.proofs.Common.{arith, rules}
use Rattle.turnstile.proofs.Notifying.{notifies}
use Rattle.turnstile.proofs.turnstile.Turnstile.notify.Goals as goal

pub fetch_add-requires : goal.fetch_add-requires
fetch_add-requires g c = (search rules, omega (arith, c.self.invariant.0, c.event_of-event.ensures.word.1), notifies _ _ _ _ _ _ _ c.event_of-event.ensures.word.0)
