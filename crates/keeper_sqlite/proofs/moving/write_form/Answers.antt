use Rattle.sqlite.specs.Held.{state}
use Rattle.store_tables.proofs.FormLemmas.{forms_by}
use Rattle.keeper_sqlite.proofs.moving.write_form.Goals as goal

pub returns-clause-forms : goal.returns-clause-forms
returns-clause-forms g c clean inside =
    forms_by (state g.S.Store c.args.tx.now.conn.now) (state g.S.Store c.execute.new.self.conn.now)
    c.execute.result (c.execute.ensures.runs clean inside)
