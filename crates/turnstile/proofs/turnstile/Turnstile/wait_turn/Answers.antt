use Rattle.std.proofs.Common.{arith, rules}
use Rattle.turnstile.proofs.Drawing.{draws_at}
use Rattle.turnstile.proofs.Seeing.{sees_at}
use Rattle.turnstile.proofs.turnstile.Turnstile.wait_turn.Goals as goal

pub fetch_add-ticket-requires : goal.fetch_add-ticket-requires
fetch_add-ticket-requires g c = (
  search rules,
  omega (arith, c.self.invariant.0),
  draws_at _ _ _ _ _ _ c.args.pass c.into_seat-seat.ensures.view,
)

pub load-served-requires : goal.load-served-requires
load-served-requires g c =
    let waits = c.loop.invariant.1 in
    (search rules, omega (arith, c.self.invariant.0), sees_at _ _ _ _ _ _ c.args.pass waits.0 waits.2)
