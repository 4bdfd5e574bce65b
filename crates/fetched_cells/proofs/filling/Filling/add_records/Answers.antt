use Rattle.std.proofs.Common.{◌+◌, [], ◌∷◌, drop, map, sym}
use Rattle.lei_records.specs.declared.view.CellKey.{CellKey}
use Rattle.fetched_cells.proofs.FillLemmas.{goes_full, goes_none, goes_on, no_records_left, records_next}
use Rattle.fetched_cells.proofs.filling.Filling.add_records.Goals as goal

pub returns-then-self-eq0 : goal.returns-then-self-eq0
returns-then-self-eq0 g c =
    let whole = g.V.View.cells c.args.view.now in
    goes_full whole c.args.self.now c.loop-lei.self (map CellKey.Rec (drop c.loop-lei.lei-index c.args.leis.now)) (map CellKey.Rec c.args.leis.now)
    c.loop-lei.invariant c.if-self-eq0.true

pub loop-lei-preserved : goal.loop-lei-preserved
loop-lei-preserved g c =
    let whole = g.V.View.cells c.args.view.now in
    let leis = c.args.leis.now in
    let i = c.loop-lei.lei-index in
    let lei = c.lei-item.result in
    goes_on whole c.args.self.now c.loop-lei.self (map CellKey.Rec (drop i leis)) (map CellKey.Rec leis)
    c.add.new.self (CellKey.Rec lei ∷ []) (map CellKey.Rec (drop (i + 1) leis))
    c.loop-lei.invariant (records_next leis i lei c.loop-lei-test.true (sym c.lei-item.is)) c.in_ok-add.ensures

pub returns : goal.returns
returns g c =
    let whole = g.V.View.cells c.args.view.now in
    goes_none whole c.args.self.now c.loop-lei.self (map CellKey.Rec (drop c.loop-lei.lei-index c.args.leis.now)) (map CellKey.Rec c.args.leis.now)
    c.loop-lei.invariant (no_records_left c.args.leis.now c.loop-lei.lei-index c.loop-lei-test.false)
