use Rattle.sqlite.specs.Held.{state}
use Rattle.store_tables.proofs.StateLemmas.{steady_then}
use Rattle.keeper_sqlite.proofs.over.upgrade_fully.Goals as goal

pub returns-clause-steady : goal.returns-clause-steady
returns-clause-steady g c =
    steady_then (state g.S.Store c.args.conn.now) (state g.S.Store c.upgrade.new.conn)
    (state g.S.Store c.confirm.new.conn) c.upgrade.ensures.steady c.confirm.ensures.steady
