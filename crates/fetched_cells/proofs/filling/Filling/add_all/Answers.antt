use Rattle.std.proofs.Common.{◌+◌, ◌∷◌, drop, sym}
use Rattle.fetched_cells.specs.Fetching.{fetched_keys, keys_along}
use Rattle.fetched_cells.proofs.FillLemmas.{goes_full, goes_none, goes_on, keys_next, none_left}
use Rattle.fetched_cells.proofs.filling.Filling.add_all.Goals as goal

pub returns-then-self-eq0 : goal.returns-then-self-eq0
returns-then-self-eq0 g c =
    let whole = g.V.View.cells c.args.view.now in
    goes_full whole c.args.self.now c.loop-key.self (fetched_keys whole (drop c.loop-key.key-index c.args.keys.now)) (fetched_keys whole c.args.keys.now)
    c.loop-key.invariant c.if-self-eq0.true

pub loop-key-preserved : goal.loop-key-preserved
loop-key-preserved g c =
    let whole = g.V.View.cells c.args.view.now in
    let keys = c.args.keys.now in
    let i = c.loop-key.key-index in
    let key = c.key-item.result in
    goes_on whole c.args.self.now c.loop-key.self (fetched_keys whole (drop i keys)) (fetched_keys whole keys)
    c.add_named.new.self (key ∷ keys_along whole key) (fetched_keys whole (drop (i + 1) keys))
    c.loop-key.invariant (keys_next whole keys i key c.loop-key-test.true (sym c.key-item.is)) c.in_ok-add_named.ensures

pub returns : goal.returns
returns g c =
    let whole = g.V.View.cells c.args.view.now in
    goes_none whole c.args.self.now c.loop-key.self (fetched_keys whole (drop c.loop-key.key-index c.args.keys.now)) (fetched_keys whole c.args.keys.now)
    c.loop-key.invariant (none_left whole c.args.keys.now c.loop-key.key-index c.loop-key-test.false)
