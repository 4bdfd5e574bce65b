use Rattle.std.proofs.Common.{subst}
use Rattle.sqlite.specs.Held.{state}
use Rattle.sqlite.specs.State.{ExecutesInside}
use Rattle.store_statements.specs.Texts.{put_text}
use Rattle.store_tables.proofs.CallLemmas.{puts_cell}
use Rattle.keeper_sqlite.proofs.writing.put_cell.Goals as goal

pub returns-clause-puts : goal.returns-clause-puts
returns-clause-puts g c clean inside =
    let old = state g.S.Store c.args.tx.now.conn.now in
    let new = state g.S.Store c.execute.new.self.conn.now in
    let e = c.cell_values.ensures in
    puts_cell old new c.args.cell.now c.execute.result c.requires e.kind
    (subst (λ p. ExecutesInside 0 put_text p old new c.execute.result) e.row
    (c.execute.ensures.runs clean inside))
