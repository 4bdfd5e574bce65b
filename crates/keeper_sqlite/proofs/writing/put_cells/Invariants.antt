use Rattle.std.proofs.Common.{◌≡◌, ◌≤◌, IsTrue, take}
use Rattle.std.specs.List.{AllByRecursion}
use Rattle.sqlite.specs.Held.{state}
use Rattle.sqlite.specs.State.{HasCleanDisk, Survives}
use Rattle.store_tables.specs.Calls.{ChangesTables, with_cells}
use Rattle.keeper_sqlite.proofs.writing.put_cells.Given as goal

-- the cells so far were put
abbrev pub invariant-loop-cell : goal.invariant-loop-cell
invariant-loop-cell g l =
    let old = state g.S.Store l.fn.tx.conn.now in
    let now = state g.S.Store l.tx.conn.now in
    (l.tx.conn.ghost_name ≡ l.initial.tx.conn.ghost_name) × Survives old now (λ _. ⊥)
    × (HasCleanDisk now → IsTrue old.in_transaction → IsTrue old.is_open
    → ChangesTables (with_cells (take l.cell-index l.cells))
    (λ _. AllByRecursion (λ cell. 1 ≤ cell.touched) l.cells) old now)
