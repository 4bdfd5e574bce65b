use Rattle.std.proofs.Common.{arith, rules}
use Rattle.turnstile.proofs.Opening.{opens_at}
use Rattle.turnstile.proofs.turnstile.Turnstile.open.Goals as goal

pub new-requires : goal.new-requires
new-requires g c = opens_at _ _ _ _ _ _ _ (omega (arith, c.from.ensures, c.requires.1)) c.in-Ok-one.ensures.one (search rules)
