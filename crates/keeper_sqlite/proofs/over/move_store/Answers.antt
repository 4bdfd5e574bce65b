use Rattle.sqlite.specs.Held.{state}
use Rattle.keeper_sqlite.proofs.StoreLemmas.{move_steady}
use Rattle.keeper_sqlite.proofs.over.move_store.Goals as goal

pub returns-in-Ok : goal.returns-in-Ok
returns-in-Ok g c =
    let e = c.move_cells.ensures in
    record {
      steady = move_steady (state g.S.Store c.args.conn.now) (state g.S.Store c.move_cells.new.conn)
          c.move_cells.result c.requires.first e.mode e.moved e.undone e.survives;
    }

pub returns-in-Err-Statement : goal.returns-in-Err-Statement
returns-in-Err-Statement g c =
    let e = c.move_cells.ensures in
    record {
      steady = move_steady (state g.S.Store c.args.conn.now) (state g.S.Store c.move_cells.new.conn)
          c.move_cells.result c.requires.first e.mode e.moved e.undone e.survives;
    }

pub returns-in-Err-Row : goal.returns-in-Err-Row
returns-in-Err-Row g c =
    let e = c.move_cells.ensures in
    record {
      steady = move_steady (state g.S.Store c.args.conn.now) (state g.S.Store c.move_cells.new.conn)
          c.move_cells.result c.requires.first e.mode e.moved e.undone e.survives;
    }
