use Rattle.std.proofs.Common.{ap, false, true, ◌∙◌}
use Rattle.std.proofs.lemmas.Result.{err_from_is_err_and}
use Rattle.std.specs.Str.{bytes_eq}
use Rattle.copy_forms.specs.JsonReading.{change_from}
use Rattle.copy_forms.proofs.JsonItems.{items-end, items-failed, items-no_place, items-step}
use Rattle.copy_forms.proofs.JsonSteps.{fails-through}
use Rattle.copy_forms.proofs.json_files.changes_from.Goals as goal

pub returns-in_default : goal.returns-in_default
returns-in_default c =
    items-no_place (change_from c.args.sheet) c.loop-index.changes.items c.args.count c.loop-index.index c.loop-index.rest.now _ c.loop-index.invariant c.loop-index-test.true
    c.in_default.ensures

pub returns-in_err-change : goal.returns-in_err-change
returns-in_err-change c =
    let failed = err_from_is_err_and c.from_residual.result c.from_residual.ensures.1 in
    rw (failed.1, failed.2)
    (fails-through c.in_err-change.field-0.0 _ _
    (items-failed (change_from c.args.sheet) c.loop-index.changes.items c.args.count c.loop-index.index c.loop-index.rest.now c.in-Some.item.now _ c.loop-index.invariant
    c.loop-index-test.true c.in-Some.ensures)
    c.in_err-change.ensures)

pub loop-index-preserved : goal.loop-index-preserved
loop-index-preserved c =
    items-step (change_from c.args.sheet) c.loop-index.changes.items c.push.new.self.items c.args.count c.loop-index.index c.loop-index.rest.now c.in-Some.item.now
    c.in_ok-change.behind.now c.in_ok-change.change _ c.loop-index.invariant c.loop-index-test.true c.in-Some.ensures c.in_ok-change.ensures c.in_ok-push.ensures.items

pub returns-then-eq : goal.returns-then-eq
returns-then-eq c =
    items-end (change_from c.args.sheet) c.loop-index.changes.items c.args.count c.loop-index.index _ true c.loop-index.rest.now _ c.loop-index.invariant c.loop-index-test.false
    (c.if-eq.ensures ∙ ap (bytes_eq c.loop-index.rest.now) c.as_slice.ensures)

pub returns-else-eq : goal.returns-else-eq
returns-else-eq c =
    items-end (change_from c.args.sheet) c.loop-index.changes.items c.args.count c.loop-index.index _ false c.loop-index.rest.now _ c.loop-index.invariant c.loop-index-test.false
    (c.if-eq.ensures ∙ ap (bytes_eq c.loop-index.rest.now) c.as_slice.ensures)
