-- The workers of a server, inside.
use Rattle.std.specs.Prelude.{◌≡◌, ℕ, ◌≤◌, Bool, false, [], IsSomeAnd, vec_capacity}
use Rattle.atomic_table.specs.Seated.{TableId}
use Rattle.http_heads.specs.Routes.{routes}
use Rattle.leireg_serve.specs.Desks.{DeskState, LineTells, ServesDesk}
use Rattle.leireg_serve.specs.declared.desk.Desk.{Desk}
use Rattle.leireg_serve.specs.declared.workers.Supplies.{Supplies}
use Rattle.leireg_serve.specs.declared.workers.Worker.{Worker}

-- There is a router of all routes, and room for this many workers and for what they leave.
abbrev pub HasRoomForWorkers : {D C : Type 0} → ℕ → Supplies D C → Type 0
HasRoomForWorkers count supplies = (supplies.router.now ≡ routes)
    × (supplies.workers.items ≡ []) × (count ≤ vec_capacity supplies.workers)
    × (supplies.desks.items ≡ []) × (count ≤ vec_capacity supplies.desks)
    × (supplies.passes.items ≡ []) × (count ≤ vec_capacity supplies.passes)

-- A worker has a router of all routes and a pass of this hall, and no line is out of its door.
abbrev pub IsReadyWorker : {D C : Type 0} → (D → Bool) → TableId → Worker D C → Type 0
IsReadyWorker out table worker = (worker.router.now ≡ routes) × IsSomeAnd worker.pass (λ pass. pass.table ≡ table)
    × (out worker.desk.door ≡ false)

-- A worker served the lines of its desk by its pass.
abbrev pub Works : {D C L : Type 0} → LineTells L → (Desk D C → DeskState L) → Worker D C → Worker D C → Type 0
Works tells state old new = IsSomeAnd old.pass (λ before. IsSomeAnd new.pass
    (λ after. ServesDesk tells before (state old.desk) after (state new.desk) new.end))
