use Rattle.sqlite.specs.Held.{state}
use Rattle.store_tables.proofs.StateLemmas.{steady_then}
use Rattle.keeper_sqlite.proofs.over.move_first.Goals as goal

pub returns-in-First : goal.returns-in-First
returns-in-First g c =
    record {
      steady = steady_then (state g.S.Store c.args.conn.now) (state g.S.Store c.form_of.new.conn)
          (state g.S.Store c.move_store.new.conn) c.form_of.ensures.steady c.move_store.ensures.steady;
    }
