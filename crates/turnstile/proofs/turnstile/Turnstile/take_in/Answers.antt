use Rattle.std.proofs.Common.{ap, rules, arith}
use Rattle.turnstile.specs.Rule.{busy, in_turn}
use Rattle.turnstile.proofs.Parting.{joins, learns}
use Rattle.turnstile.proofs.turnstile.Turnstile.take_in.Goals as goal

pub join_seat-requires : goal.join_seat-requires
join_seat-requires g c = (
  search rules,
  search rules,
  ap (λ me. me.1) c.into_seat.ensures.view,
  omega (arith, c.self.invariant.0),
  joins _ _ _ _ _ _ _ (ap (λ me. busy me.0) c.requires.idle) (ap (λ me. in_turn me.0) c.requires.idle) (ap (λ me. busy me.0) c.into_seat.ensures.view) (ap (λ me. in_turn me.0) c.into_seat.ensures.view),
)

pub load-requires : goal.load-requires
load-requires g c = (
  search rules,
  omega (arith, c.self.invariant.0),
  learns _ _ _ _ _ _ (ap (λ me. busy me.0) c.join_seat.ensures.2) (ap (λ me. in_turn me.0) c.join_seat.ensures.2),
)
