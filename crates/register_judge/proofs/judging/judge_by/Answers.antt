use Rattle.std.proofs.Common.{◌+◌, ap, ◌∙◌}
use Rattle.lei_records.specs.Tables.{record_count}
use Rattle.register_judge.specs.Judging.{judge_items}
use Rattle.register_judge.specs.Sittings.{over_table}
use Rattle.register_judge.specs.Taking.{take}
use Rattle.register_judge.proofs.TakingLemmas.{judged-taken, judges-takes}
use Rattle.register_judge.proofs.judging.judge_by.Goals as goal

pub returns-clause-over_tables : goal.returns-clause-over_tables
returns-clause-over_tables g c = λ table sound same.
    let items = c.args.items.now in
    let sitting = c.args.sitting.now in
    judges-takes c.judge_each.result _ (take table (over_table sitting (record_count table + sitting.limit)) items)
    (ap (λ cells. judge_items cells 0 sitting items) same ∙ judged-taken table sitting items sound) c.judge_each.ensures.answers
