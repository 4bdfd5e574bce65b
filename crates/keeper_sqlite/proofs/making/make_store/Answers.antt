use Rattle.sqlite.specs.Held.{state}
use Rattle.store_statements.specs.Texts.{store_table_text}
use Rattle.store_tables.proofs.MakeLemmas.{store_made, inside_by}
use Rattle.keeper_sqlite.proofs.making.make_store.Goals as goal

pub returns-clause-inside : goal.returns-clause-inside
returns-clause-inside g c clean inside =
    inside_by store_table_text (state g.S.Store c.args.tx.now.conn.now)
    (state g.S.Store c.execute.new.self.conn.now) c.execute.result (c.execute.ensures.runs clean inside)

pub returns-clause-makes : goal.returns-clause-makes
returns-clause-makes g c clean inside has =
    store_made (state g.S.Store c.args.tx.now.conn.now) (state g.S.Store c.execute.new.self.conn.now)
    c.execute.result has (c.execute.ensures.runs clean inside)
