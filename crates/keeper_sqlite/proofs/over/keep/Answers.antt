use Rattle.sqlite.specs.Held.{state}
use Rattle.keeper_sqlite.proofs.KeepLemmas.{keep_ends}
use Rattle.keeper_sqlite.proofs.over.keep.Goals as goal

pub returns-in-Ok : goal.returns-in-Ok
returns-in-Ok g c =
    let e = c.in-Ok.ensures in
    keep_ends c.args.batch.now (state g.S.Store c.args.conn.now) (state g.S.Store c.write.new.conn)
    (λ live db may. g.met.S.Store.settled c.write.new.conn.store db live may) e.survives c.requires.ready
    e.mode
    _ e.kept (λ clean. tt)

pub returns-in-Err : goal.returns-in-Err
returns-in-Err g c =
    let e = c.in-Err.ensures in
    keep_ends c.args.batch.now (state g.S.Store c.args.conn.now) (state g.S.Store c.write.new.conn)
    (λ live db may. g.met.S.Store.settled c.write.new.conn.store db live may) e.survives c.requires.ready
    e.mode
    _ (λ clean. tt) e.undone
