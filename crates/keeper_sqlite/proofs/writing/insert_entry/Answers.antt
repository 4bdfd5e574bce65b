use Rattle.std.proofs.Common.{subst}
use Rattle.sqlite.specs.Held.{state}
use Rattle.sqlite.specs.State.{ExecutesInside}
use Rattle.store_statements.specs.Texts.{insert_text}
use Rattle.store_tables.proofs.CallLemmas.{adds_entry}
use Rattle.keeper_sqlite.proofs.writing.insert_entry.Goals as goal

pub returns-clause-adds : goal.returns-clause-adds
returns-clause-adds g c clean inside =
    let old = state g.S.Store c.args.tx.now.conn.now in
    let new = state g.S.Store c.execute.new.self.conn.now in
    let e = c.entry_values.ensures in
    adds_entry old new c.args.entry.now c.execute.result
    (record { seq = c.requires; kind = e.kind; number = e.number; rules = e.rules })
    (subst (λ p. ExecutesInside 0 insert_text p old new c.execute.result) e.row
    (c.execute.ensures.runs clean inside))
