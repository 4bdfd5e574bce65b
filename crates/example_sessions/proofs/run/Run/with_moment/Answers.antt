use Rattle.std.proofs.Common.{arith}
use Rattle.std.proofs.lemmas.Int.{ints}
use Rattle.std.proofs.lemmas.List.Elements.{All-push}
use Rattle.lei_outside.specs.Clock.{IsClockMoment}
use Rattle.example_sessions.proofs.run.Run.with_moment.Goals as goal

pub invariant_of-self : goal.invariant_of-self
invariant_of-self c =
    let moment = c.seconds.ensures.moment in
    rw c.in_ok-push.ensures.items (All-push IsClockMoment c.self.inside.moments.items _ c.self.invariant (omega (arith, ints), omega (arith, ints)))
