use Rattle.std.proofs.Common.{[], arith}
use Rattle.sqlite.specs.Held.{state}
use Rattle.store_statements.specs.Texts.{form_text}
use Rattle.store_statements.proofs.Meanings.{form_plain}
use Rattle.store_tables.proofs.CallLemmas.{if_ok, whole_steady}
use Rattle.store_tables.proofs.FormLemmas.{reads_form}
use Rattle.keeper_sqlite.proofs.reading.read_form.Goals as goal

pub returns-clause-steady : goal.returns-clause-steady
returns-clause-steady g c =
    let e = c.query_all.ensures in
    whole_steady form_text [] (state g.S.Store c.args.conn.now) (state g.S.Store c.query_all.new.self)
    (λ rows. rows.items) c.query_all.result c.requires.whole form_plain e.mode e.ok e.err e.survives

pub returns-clause-form : goal.returns-clause-form
returns-clause-form g c clean =
    let old = state g.S.Store c.args.conn.now in
    let new = state g.S.Store c.query_all.new.self in
    let whole = c.requires.whole (omega (arith, c.query_all.ensures.survives.clean, clean)) in
    if_ok c.query_all.result _ _ (λ rows h. reads_form old new rows.items whole.schema h)
    (c.query_all.ensures.ok clean)
