use Rattle.sqlite.specs.Held.{state}
use Rattle.keeper_sqlite.proofs.StoreLemmas.{make_steady}
use Rattle.keeper_sqlite.proofs.over.add.Goals as goal

pub returns-in-Ok-clause-steady : goal.returns-in-Ok-clause-steady
returns-in-Ok-clause-steady g c =
    let e = c.add_tables.ensures in
    make_steady (state g.S.Store c.args.conn.now) (state g.S.Store c.add_tables.new.conn)
    c.add_tables.result c.requires.settled e.mode (λ clean. e.made clean c.requires.first) e.undone
    (e.survives c.requires.first)

pub returns-in-Err-clause-steady : goal.returns-in-Err-clause-steady
returns-in-Err-clause-steady g c =
    let e = c.add_tables.ensures in
    make_steady (state g.S.Store c.args.conn.now) (state g.S.Store c.add_tables.new.conn)
    c.add_tables.result c.requires.settled e.mode (λ clean. e.made clean c.requires.first) e.undone
    (e.survives c.requires.first)
