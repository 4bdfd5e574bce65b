use Rattle.sqlite.specs.Held.{state}
use Rattle.store_tables.proofs.StateLemmas.{steady_then}
use Rattle.keeper_sqlite.proofs.over.upgrade.Goals as goal

pub returns : goal.returns
returns g c =
    record {
      steady = steady_then (state g.S.Store c.args.conn.now) (state g.S.Store c.has_cells.new.conn)
          (state g.S.Store c.move_first.new.conn) c.has_cells.ensures.steady c.move_first.ensures.steady;
    }
