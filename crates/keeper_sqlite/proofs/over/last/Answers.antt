use Rattle.sqlite.specs.Held.{state}
use Rattle.store_tables.proofs.StateLemmas.{steady_then}
use Rattle.keeper_sqlite.proofs.over.last.Goals as goal

pub returns-in-Ok-clause-steady : goal.returns-in-Ok-clause-steady
returns-in-Ok-clause-steady g c =
    steady_then (state g.S.Store c.args.conn.now) (state g.S.Store c.prepare.new.conn)
    (state g.S.Store c.read_last.new.conn) c.prepare.ensures.steady c.read_last.ensures.steady

pub returns-in-Err-clause-steady : goal.returns-in-Err-clause-steady
returns-in-Err-clause-steady g c =
    steady_then (state g.S.Store c.args.conn.now) (state g.S.Store c.prepare.new.conn)
    (state g.S.Store c.read_last.new.conn) c.prepare.ensures.steady c.read_last.ensures.steady
