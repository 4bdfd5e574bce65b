use Rattle.std.proofs.Common.{◌-◌, ◌==◌, ap, arith, sym}
use Rattle.register_state.proofs.Shelved.{latest-found}
use Rattle.register_state.proofs.publishing.last_published.Goals as goal

pub returns-then-entry-eq-PUBLISH : goal.returns-then-entry-eq-PUBLISH
returns-then-entry-eq-PUBLISH c =
    let index = c.loop-index.index in
    let some = c.loop-index-test.true in
    let most = c.loop-index.auto.index in
    sym (latest-found c.args.entries.now (index - 1) index c.index-entries-index.result (omega (arith, some, most)) (omega (arith, some)) (sym c.index-entries-index.is)
    (ap (λ kind. kind == 3) c.if-entry-eq-PUBLISH.true) c.loop-index.invariant)
