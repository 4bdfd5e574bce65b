use Rattle.std.proofs.Common.{◌≡◌, ℕ, ◌%◌, ◌^◌, []}
use Rattle.turnstile.specs.Rule.{waiting_view}
use Rattle.turnstile.specs.Passes.{view_of}
use Rattle.turnstile.proofs.turnstile.Turnstile.wait_turn.Given as goal

-- the seat waits with its ticket
abbrev pub invariant-loop : goal.invariant-loop
invariant-loop g l =
    (l.seat.table_id ≡ l.fn.self.table) × ((t : ℕ) × (l.ticket ≡ t % 2 ^ 64) × (l.seat.me ≡ (waiting_view (view_of l.fn.pass) t, [])))
