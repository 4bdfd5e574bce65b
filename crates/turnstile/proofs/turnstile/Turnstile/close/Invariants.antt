use Rattle.std.proofs.Common.{◌≡◌}
use Rattle.turnstile.proofs.Gathering.{Gathered}
use Rattle.turnstile.proofs.turnstile.Turnstile.close.Given as goal

-- the seat has the accounts of the passes that were absorbed
abbrev pub invariant-loop-pass : goal.invariant-loop-pass
invariant-loop-pass g l = (l.seat.table_id ≡ l.fn.self.table) × Gathered l.fn.passes.items l.passes.items l.seat.me

abbrev pub decreases-loop-pass : goal.decreases-loop-pass
decreases-loop-pass g l = goal.left-loop-pass g l
