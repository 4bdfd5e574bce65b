use Rattle.sqlite.specs.Held.{state}
use Rattle.store_tables.proofs.StateLemmas.{steady_then}
use Rattle.keeper_sqlite.proofs.over.settle.Goals as goal

pub returns-in-First-clause-steady : goal.returns-in-First-clause-steady
returns-in-First-clause-steady g c =
    steady_then (state g.S.Store c.args.conn.now) (state g.S.Store c.form_of.new.conn)
    (state g.S.Store c.upgrade_fully.new.conn) c.form_of.ensures.steady c.upgrade_fully.ensures.steady
