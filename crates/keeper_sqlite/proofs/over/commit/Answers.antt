use Rattle.sqlite.specs.Held.{state}
use Rattle.keeper_sqlite.proofs.KeepLemmas.{refused_ends, steady_ends}
use Rattle.keeper_sqlite.proofs.over.commit.Goals as goal

pub returns-in-Ok : goal.returns-in-Ok
returns-in-Ok g c =
    steady_ends c.args.batch.now c.keep.result (state g.S.Store c.args.conn.now)
    (state g.S.Store c.prepare.new.conn) (state g.S.Store c.keep.new.conn) c.prepare.ensures.steady
    c.keep.ensures

pub returns-in-Err : goal.returns-in-Err
returns-in-Err g c = refused_ends c.args.batch.now _ (state g.S.Store c.args.conn.now)
    (state g.S.Store c.prepare.new.conn) c.prepare.ensures.steady
