use Rattle.std.proofs.Common.{◌≡◌, [], ◌∷◌, subst}
use Rattle.sqlite.specs.Held.{state}
use Rattle.sqlite.specs.State.{Shown}
use Rattle.sqlite.specs.Values.{bound}
use Rattle.store_statements.specs.Texts.{cells_text}
use Rattle.store_statements.proofs.Meanings.{cells_plain}
use Rattle.store_tables.proofs.EntryReading.{range}
use Rattle.store_tables.proofs.CallLemmas.{cells_told, if_ok, whole_steady}
use Rattle.keeper_sqlite.proofs.reading.read_cells.Goals as goal

pub returns-clause-steady : goal.returns-clause-steady
returns-clause-steady g c =
    let e = c.query_all.ensures in
    whole_steady cells_text (bound (c.number.result ∷ c.number-2.result ∷ []))
    (state g.S.Store c.args.conn.now) (state g.S.Store c.query_all.new.self) (λ rows. rows.items)
    c.query_all.result
    c.requires.whole cells_plain e.mode e.ok e.err e.survives

pub returns-clause-answer : goal.returns-clause-answer
returns-clause-answer g c clean ready =
    let old = state g.S.Store c.args.conn.now in
    let new = state g.S.Store c.query_all.new.self in
    let params : bound (c.number.result ∷ c.number-2.result ∷ [])
    ≡ range c.args.after c.args.upto = λ i. c.number.ensures i ∷ c.number-2.ensures i ∷ [] in
    if_ok c.query_all.result _ _
    (λ rows h t told. cells_told c.args.after c.args.upto old new rows.items t ready
    (subst (λ p. Shown cells_text p old new rows.items) params h) told)
    (c.query_all.ensures.ok clean)
