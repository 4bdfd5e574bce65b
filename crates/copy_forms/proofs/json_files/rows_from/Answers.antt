use Rattle.std.proofs.Common.{ap, false, true, ◌∙◌}
use Rattle.std.proofs.lemmas.Result.{err_from_is_err_and}
use Rattle.std.specs.Str.{bytes_eq}
use Rattle.copy_forms.specs.JsonReading.{record_from}
use Rattle.copy_forms.proofs.JsonItems.{items-end, items-failed, items-no_place, items-step}
use Rattle.copy_forms.proofs.JsonSteps.{fails-through}
use Rattle.copy_forms.proofs.json_files.rows_from.Goals as goal

pub returns-in_default : goal.returns-in_default
returns-in_default c =
    items-no_place (record_from c.args.sheet) c.loop-index.rows.items c.args.count c.loop-index.index c.loop-index.rest.now _ c.loop-index.invariant c.loop-index-test.true
    c.in_default.ensures

pub returns-in_err-row : goal.returns-in_err-row
returns-in_err-row c =
    let failed = err_from_is_err_and c.from_residual.result c.from_residual.ensures.1 in
    rw (failed.1, failed.2)
    (fails-through c.in_err-row.field-0.0 _ _
    (items-failed (record_from c.args.sheet) c.loop-index.rows.items c.args.count c.loop-index.index c.loop-index.rest.now c.in-Some.record.now _ c.loop-index.invariant
    c.loop-index-test.true c.in-Some.ensures)
    c.in_err-row.ensures)

pub loop-index-preserved : goal.loop-index-preserved
loop-index-preserved c =
    items-step (record_from c.args.sheet) c.loop-index.rows.items c.push.new.self.items c.args.count c.loop-index.index c.loop-index.rest.now c.in-Some.record.now
    c.in_ok-row.behind.now c.in_ok-row.row _ c.loop-index.invariant c.loop-index-test.true c.in-Some.ensures c.in_ok-row.ensures c.in_ok-push.ensures.items

pub returns-then-eq : goal.returns-then-eq
returns-then-eq c =
    items-end (record_from c.args.sheet) c.loop-index.rows.items c.args.count c.loop-index.index _ true c.loop-index.rest.now _ c.loop-index.invariant c.loop-index-test.false
    (c.if-eq.ensures ∙ ap (bytes_eq c.loop-index.rest.now) c.as_slice.ensures)

pub returns-else-eq : goal.returns-else-eq
returns-else-eq c =
    items-end (record_from c.args.sheet) c.loop-index.rows.items c.args.count c.loop-index.index _ false c.loop-index.rest.now _ c.loop-index.invariant c.loop-index-test.false
    (c.if-eq.ensures ∙ ap (bytes_eq c.loop-index.rest.now) c.as_slice.ensures)
