use Rattle.sqlite.specs.Held.{state}
use Rattle.store_tables.proofs.StateLemmas.{steady_then}
use Rattle.keeper_sqlite.proofs.over.prepare.Goals as goal

pub returns-clause-steady : goal.returns-clause-steady
returns-clause-steady g c =
    steady_then (state g.S.Store c.args.conn.now) (state g.S.Store c.make_missing.new.conn)
    (state g.S.Store c.settle.new.conn) c.make_missing.ensures.steady c.settle.ensures.steady
