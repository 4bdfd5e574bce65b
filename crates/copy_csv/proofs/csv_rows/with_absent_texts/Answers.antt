use Rattle.std.proofs.Common.{◌+◌, ◌-◌, [], ◌++◌, ap, ◌∙◌}
use Rattle.std.specs.Prelude.{replicate}
use Rattle.copy_csv.proofs.WidthLemmas.{filled-end, filled-step}
use Rattle.copy_csv.proofs.csv_rows.with_absent_texts.Goals as goal

pub loop-preserved : goal.loop-preserved
loop-preserved c =
    ap (λ l. l ++ replicate (c.args.count - (c.loop.counter + 1)) []) c.in_ok-push.ensures.pushed
    ∙ filled-step c.loop.texts c.args.count c.loop.counter c.loop-test.true ∙ c.loop.invariant

pub returns : goal.returns
returns c = filled-end c.loop.texts _ c.args.count c.loop.counter c.loop-test.false c.loop.invariant
