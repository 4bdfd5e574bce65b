use Rattle.std.proofs.Common.{[], arith}
use Rattle.sqlite.specs.Held.{state}
use Rattle.store_statements.specs.Texts.{last_text}
use Rattle.store_statements.proofs.Meanings.{last_plain}
use Rattle.store_tables.proofs.CallLemmas.{if_ok, last_told, ready_steady}
use Rattle.keeper_sqlite.proofs.reading.read_last.Goals as goal

pub returns-clause-steady : goal.returns-clause-steady
returns-clause-steady g c =
    let e = c.query_all.ensures in
    ready_steady last_text [] (state g.S.Store c.args.conn.now) (state g.S.Store c.query_all.new.self)
    (λ rows. rows.items) c.query_all.result c.requires.ready last_plain
    e.mode e.ok e.err e.survives

pub returns-clause-answer : goal.returns-clause-answer
returns-clause-answer g c clean =
    let old = state g.S.Store c.args.conn.now in
    let new = state g.S.Store c.query_all.new.self in
    let ready = c.requires.ready (omega (arith, c.query_all.ensures.survives.clean, clean)) in
    if_ok c.query_all.result _ _ (λ rows h t told. last_told old new rows.items t ready h told)
    (c.query_all.ensures.ok clean)
