use Rattle.std.specs.Prelude.{◌≤◌, length, vec_capacity}
use Rattle.leireg_serve.proofs.Apart.{Made}
use Rattle.leireg_serve.proofs.workers.make_workers.Given as goal

abbrev pub invariant-loop-desk : goal.invariant-loop-desk
invariant-loop-desk g l =
    Made l.router l.fn.desks.items l.fn.passes.items l.workers.items l.desk-iterator.rest.items l.passes.rest.items
    × (length l.fn.desks.items ≤ vec_capacity l.workers)
