use Rattle.sqlite.specs.Held.{state}
use Rattle.keeper_sqlite.proofs.StoreLemmas.{make_steady}
use Rattle.keeper_sqlite.proofs.over.make.Goals as goal

pub returns-in-Ok-clause-steady : goal.returns-in-Ok-clause-steady
returns-in-Ok-clause-steady g c =
    let e = c.make_tables.ensures in
    make_steady (state g.S.Store c.args.conn.now) (state g.S.Store c.make_tables.new.conn)
    c.make_tables.result c.requires.settled e.mode (λ clean. e.made clean c.requires.begun) e.undone
    (e.survives c.requires.begun)

pub returns-in-Err-clause-steady : goal.returns-in-Err-clause-steady
returns-in-Err-clause-steady g c =
    let e = c.make_tables.ensures in
    make_steady (state g.S.Store c.args.conn.now) (state g.S.Store c.make_tables.new.conn)
    c.make_tables.result c.requires.settled e.mode (λ clean. e.made clean c.requires.begun) e.undone
    (e.survives c.requires.begun)
