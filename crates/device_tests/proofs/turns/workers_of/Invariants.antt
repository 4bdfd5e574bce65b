use Rattle.std.proofs.Common.{◌≡◌, length, All, IsSomeAnd}
use Rattle.atomic_table.specs.Seated.{TableId}
use Rattle.turnstile.specs.Passes.{AreOf}
use Rattle.device_tests.proofs.turns.workers_of.Given as goal

abbrev pub invariant-loop-pass : goal.invariant-loop-pass
invariant-loop-pass l =
    (table : TableId) → AreOf table l.fn.passes.items
    → AreOf table l.passes.items × All (λ w. IsSomeAnd w.pass (λ p. p.table ≡ table)) l.workers.items

abbrev pub decreases-loop-pass : goal.decreases-loop-pass
decreases-loop-pass l = length l.passes.items
