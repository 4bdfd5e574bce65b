use Rattle.std.proofs.Common.{◌∙◌, arith}
use Rattle.sqlite.specs.Held.{state}
use Rattle.sqlite.specs.State.{HasCleanDisk}
use Rattle.store_tables.proofs.CallLemmas.{if_ok}
use Rattle.store_tables.proofs.StateLemmas.{steady_then}
use Rattle.keeper_sqlite.proofs.StoreLemmas.{same_cells}
use Rattle.keeper_sqlite.proofs.over.cells.Goals as goal

pub returns-in-Ok-clause-steady : goal.returns-in-Ok-clause-steady
returns-in-Ok-clause-steady g c =
    steady_then (state g.S.Store c.args.conn.now) (state g.S.Store c.prepare.new.conn)
    (state g.S.Store c.read_cells.new.conn) c.prepare.ensures.steady c.read_cells.ensures.steady

pub returns-in-Err-clause-steady : goal.returns-in-Err-clause-steady
returns-in-Err-clause-steady g c =
    steady_then (state g.S.Store c.args.conn.now) (state g.S.Store c.prepare.new.conn)
    (state g.S.Store c.read_cells.new.conn) c.prepare.ensures.steady c.read_cells.ensures.steady

pub returns-in-Ok-clause-answer : goal.returns-in-Ok-clause-answer
returns-in-Ok-clause-answer g c clean =
    let early : HasCleanDisk (state g.S.Store c.prepare.new.conn) = omega
    (arith, c.read_cells.ensures.steady.clean, clean) in
    if_ok c.cells_of.result _ _
    (λ list is t told. same_cells c.as_slice.result.now list _ is
    (c.as_slice.ensures.value ∙ c.in-Ok.ensures.answer clean (c.in_ok-prepare.ensures.ready early) t told)) c.cells_of.ensures.ok
