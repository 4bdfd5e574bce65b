use Rattle.std.proofs.Common.{◌∷◌, ap, subst, sym, rules, arith, ◌∙◌}
use Rattle.turnstile.specs.Rule.{busy, in_turn}
use Rattle.turnstile.specs.Passes.{account_at}
use Rattle.turnstile.specs.Steps.{StayAlike}
use Rattle.turnstile.proofs.Parting.{splits}
use Rattle.turnstile.proofs.turnstile.Turnstile.meet.Goals as goal

pub split_seat-other-requires : goal.split_seat-other-requires
split_seat-other-requires g c = (
  search rules,
  omega (arith, c.self.invariant.0),
  splits _ _ _ _ _ (ap (λ me. busy me.0) c.take_in.ensures.view) (ap (λ me. in_turn me.0) c.take_in.ensures.view),
)

pub returns-clause-stays : goal.returns-clause-stays
returns-clause-stays g c =
    let alike = subst (λ accounts. StayAlike (account_at c.args.second ∷ accounts)) (ap (λ me. me.0.accounts) c.into_seat-seat.ensures.view) c.take_in.ensures.stays in
    alike.1.1.0 ∙ sym alike.1.0
