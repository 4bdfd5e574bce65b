use Rattle.std.proofs.Common.{rules, arith}
use Rattle.turnstile.proofs.Passing.{gives_back_at}
use Rattle.turnstile.proofs.turnstile.Turnstile.pass_on.Goals as goal

pub fetch_add-served-requires : goal.fetch_add-served-requires
fetch_add-served-requires g c =
    let v = c.requires.value in
    (search rules, omega (arith, c.self.invariant.0), gives_back_at _ _ _ _ _ _ v.0 v.1 v.2 v.3 _ v.5 v.6 v.7 v.4)
