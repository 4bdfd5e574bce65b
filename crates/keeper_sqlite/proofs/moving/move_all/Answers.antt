use Rattle.std.proofs.Common.{arith}
use Rattle.sqlite.specs.Held.{state}
use Rattle.sqlite.specs.State.{HasCleanDisk}
use Rattle.store_tables.proofs.MoveLemmas.{moves_by}
use Rattle.store_tables.proofs.TransactionLemmas.{keeps_then}
use Rattle.keeper_sqlite.proofs.moving.move_all.Goals as goal

pub returns-in_err-write_form-clause-keeps : goal.returns-in_err-write_form-clause-keeps
returns-in_err-write_form-clause-keeps g c clean inside =
    let early : HasCleanDisk (state g.S.Store c.move_pages.new.tx.conn.now) = omega
    (arith, c.write_form.ensures.survives.clean, clean) in
    let first = c.in_ok-move_pages.ensures.carries early inside in
    keeps_then (state g.S.Store c.args.tx.now.conn.now) (state g.S.Store c.move_pages.new.tx.conn.now)
    (state g.S.Store c.write_form.new.tx.conn.now) first.inside
    (c.write_form.ensures.keeps clean first.inside.mode)

pub returns-clause-keeps : goal.returns-clause-keeps
returns-clause-keeps g c clean inside =
    let early : HasCleanDisk (state g.S.Store c.move_pages.new.tx.conn.now) = omega
    (arith, c.write_form.ensures.survives.clean, clean) in
    let first = c.in_ok-move_pages.ensures.carries early inside in
    keeps_then (state g.S.Store c.args.tx.now.conn.now) (state g.S.Store c.move_pages.new.tx.conn.now)
    (state g.S.Store c.write_form.new.tx.conn.now) first.inside
    (c.write_form.ensures.keeps clean first.inside.mode)

pub returns-clause-moves : goal.returns-clause-moves
returns-clause-moves g c clean inside =
    let early : HasCleanDisk (state g.S.Store c.move_pages.new.tx.conn.now) = omega
    (arith, c.write_form.ensures.survives.clean, clean) in
    let first = c.in_ok-move_pages.ensures.carries early inside in
    moves_by (state g.S.Store c.args.tx.now.conn.now) (state g.S.Store c.move_pages.new.tx.conn.now)
    (state g.S.Store c.write_form.new.tx.conn.now) first
    (c.in_ok-write_form.ensures.forms clean first.inside.mode)
