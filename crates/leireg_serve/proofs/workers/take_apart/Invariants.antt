use Rattle.std.specs.Prelude.{◌≤◌, length, vec_capacity}
use Rattle.leireg_serve.proofs.Apart.{TakenApart}
use Rattle.leireg_serve.proofs.workers.take_apart.Given as goal

abbrev pub invariant-loop-worker : goal.invariant-loop-worker
invariant-loop-worker g l =
    TakenApart l.fn.workers.items l.yielded l.worker-iterator.rest.items l.desks.items l.passes.items l.end
    × (length l.fn.workers.items ≤ vec_capacity l.desks) × (length l.fn.workers.items ≤ vec_capacity l.passes)
