use Rattle.std.proofs.Common.{arith, rules}
use Rattle.store_tables.specs.Calls.{Clears}
use Rattle.sqlite.specs.Held.{state}
use Rattle.sqlite.specs.State.{HasCleanDisk}
use Rattle.store_tables.proofs.MoveLemmas.{copies_page}
use Rattle.store_tables.proofs.TransactionLemmas.{keeps_then}
use Rattle.keeper_sqlite.proofs.moving.copy_page.Goals as goal

pub put_cells-requires : goal.put_cells-requires
put_cells-requires g c = rw c.as_slice.ensures c.in_ok-cells.ensures.range

pub returns-in_err-clear_cells-clause-keeps : goal.returns-in_err-clear_cells-clause-keeps
returns-in_err-clear_cells-clause-keeps g c clean inside live =
    let early : HasCleanDisk (state g.S.Store c.put_cells.new.tx.conn.now) = omega
    (arith, c.clear_cells.ensures.survives.clean, clean) in
    let first = c.in_ok-put_cells.ensures.puts early inside live in
    keeps_then (state g.S.Store c.args.tx.now.conn.now) (state g.S.Store c.put_cells.new.tx.conn.now)
    (state g.S.Store c.clear_cells.new.tx.conn.now) first.inside
    (c.clear_cells.ensures.keeps clean first.inside.mode)

pub returns-clause-keeps : goal.returns-clause-keeps
returns-clause-keeps g c clean inside live =
    let early : HasCleanDisk (state g.S.Store c.put_cells.new.tx.conn.now) = omega
    (arith, c.clear_cells.ensures.survives.clean, clean) in
    let first = c.in_ok-put_cells.ensures.puts early inside live in
    keeps_then (state g.S.Store c.args.tx.now.conn.now) (state g.S.Store c.put_cells.new.tx.conn.now)
    (state g.S.Store c.clear_cells.new.tx.conn.now) first.inside
    (c.clear_cells.ensures.keeps clean first.inside.mode)

pub returns-clause-copies : goal.returns-clause-copies
returns-clause-copies g c clean inside live =
    let early : HasCleanDisk (state g.S.Store c.put_cells.new.tx.conn.now) = omega
    (arith, c.clear_cells.ensures.survives.clean, clean) in
    let first = c.in_ok-put_cells.ensures.puts early inside live in
    let old = state g.S.Store c.put_cells.new.tx.conn.now in
    let new = state g.S.Store c.clear_cells.new.tx.conn.now in
    let cleared = c.in_ok-clear_cells.ensures.clears clean first.inside.mode in
    let clears : Clears c.args.last old new = search rules in
    copies_page c.args.page.now c.args.last c.in_ok-cells.cells
    (state g.S.Store c.args.tx.now.conn.now)
    (state g.S.Store c.put_cells.new.tx.conn.now) (state g.S.Store c.clear_cells.new.tx.conn.now)
    c.in_ok-cells.ensures.ok (rw c.as_slice.ensures at first)
    clears
