use Rattle.std.proofs.Common.{◌≡◌, ◌≤◌, vec_capacity}
use Rattle.turnstile.proofs.Dealing.{Dealt}
use Rattle.turnstile.proofs.turnstile.Turnstile.deal.Given as goal

-- the seat has the accounts that are left, and the list has the passes of the others
abbrev pub invariant-loop-number : goal.invariant-loop-number
invariant-loop-number g l =
    (l.seat.table_id ≡ l.fn.self.table) × (l.fn.passes ≤ vec_capacity l.list)
    × Dealt l.fn.self.table (g.T.Tally.entries l.fn.self.value) (g.T.Tally.stays l.fn.self.value) l.fn.passes l._number l.list.items l.seat.me
