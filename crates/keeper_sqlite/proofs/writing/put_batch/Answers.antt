use Rattle.std.proofs.Common.{arith}
use Rattle.sqlite.specs.Held.{state}
use Rattle.sqlite.specs.State.{HasCleanDisk}
use Rattle.store_tables.proofs.TransactionLemmas.{keeps_then}
use Rattle.keeper_sqlite.proofs.TransactionLemmas.{at_most, batch_put}
use Rattle.keeper_sqlite.proofs.writing.put_batch.Goals as goal

pub put_cells-requires : goal.put_cells-requires
put_cells-requires g c = rw c.as_slice.ensures
    (at_most c.args.batch.now.entry.seq c.args.batch.now.cells c.requires.number c.requires.cells)

pub returns-in_err-put_cells-clause-keeps : goal.returns-in_err-put_cells-clause-keeps
returns-in_err-put_cells-clause-keeps g c clean inside =
    let early : HasCleanDisk (state g.S.Store c.insert_entry.new.tx.conn.now) = omega
    (arith, c.put_cells.ensures.survives.clean, clean) in
    let first = c.in_ok-insert_entry.ensures.adds early inside in
    keeps_then (state g.S.Store c.args.tx.now.conn.now) (state g.S.Store c.insert_entry.new.tx.conn.now)
    (state g.S.Store c.put_cells.new.tx.conn.now) first.inside
    (c.put_cells.ensures.keeps clean first.inside.mode first.inside.is_open)

pub returns-clause-keeps : goal.returns-clause-keeps
returns-clause-keeps g c clean inside =
    let early : HasCleanDisk (state g.S.Store c.insert_entry.new.tx.conn.now) = omega
    (arith, c.put_cells.ensures.survives.clean, clean) in
    let first = c.in_ok-insert_entry.ensures.adds early inside in
    keeps_then (state g.S.Store c.args.tx.now.conn.now) (state g.S.Store c.insert_entry.new.tx.conn.now)
    (state g.S.Store c.put_cells.new.tx.conn.now) first.inside
    (c.put_cells.ensures.keeps clean first.inside.mode first.inside.is_open)

pub returns-clause-puts : goal.returns-clause-puts
returns-clause-puts g c clean inside =
    let early : HasCleanDisk (state g.S.Store c.insert_entry.new.tx.conn.now) = omega
    (arith, c.put_cells.ensures.survives.clean, clean) in
    let first = c.in_ok-insert_entry.ensures.adds early inside in
    batch_put c.args.batch.now (state g.S.Store c.args.tx.now.conn.now)
    (state g.S.Store c.insert_entry.new.tx.conn.now) (state g.S.Store c.put_cells.new.tx.conn.now)
    c.requires first
    (rw c.as_slice.ensures at (c.in_ok-put_cells.ensures.puts clean first.inside.mode first.inside.is_open))
