use Rattle.std.proofs.Common.{◌≡◌, [], ◌∷◌, arith, subst}
use Rattle.sqlite.specs.Held.{state}
use Rattle.sqlite.specs.State.{Shown}
use Rattle.sqlite.specs.Values.{bound}
use Rattle.store_statements.specs.Texts.{entries_text}
use Rattle.store_statements.proofs.Meanings.{entries_plain}
use Rattle.store_tables.proofs.EntryReading.{range}
use Rattle.store_tables.proofs.CallLemmas.{entries_told, if_ok, ready_steady}
use Rattle.keeper_sqlite.proofs.reading.read_entries.Goals as goal

pub returns-clause-steady : goal.returns-clause-steady
returns-clause-steady g c =
    let e = c.query_all.ensures in
    ready_steady entries_text (bound (c.number.result ∷ c.number-2.result ∷ []))
    (state g.S.Store c.args.conn.now) (state g.S.Store c.query_all.new.self) (λ rows. rows.items)
    c.query_all.result
    c.requires.ready entries_plain e.mode e.ok e.err e.survives

pub returns-clause-answer : goal.returns-clause-answer
returns-clause-answer g c clean =
    let old = state g.S.Store c.args.conn.now in
    let new = state g.S.Store c.query_all.new.self in
    let ready = c.requires.ready (omega (arith, c.query_all.ensures.survives.clean, clean)) in
    let params : bound (c.number.result ∷ c.number-2.result ∷ [])
    ≡ range c.args.after c.args.upto = λ i. c.number.ensures i ∷ c.number-2.ensures i ∷ [] in
    if_ok c.query_all.result _ _
    (λ rows h t told. entries_told c.args.after c.args.upto old new rows.items t ready
    (subst (λ p. Shown entries_text p old new rows.items) params h) told)
    (c.query_all.ensures.ok clean)
