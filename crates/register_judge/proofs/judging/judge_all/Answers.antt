use Rattle.std.proofs.Common.{◌+◌, ℤ, IfOk, ap, refl, subst, ◌∙◌}
use Rattle.std.proofs.Math.Facts.{to_z-of_z}
use Rattle.lei_records.specs.Tables.{record_count}
use Rattle.lei_records.specs.RuleNumbers.{newest}
use Rattle.register_judge.specs.Agreement.{IsByReads}
use Rattle.register_judge.specs.Judging.{judge_items}
use Rattle.register_judge.specs.Outcomes.{Judges}
use Rattle.register_judge.specs.Sittings.{sitting_by}
use Rattle.register_judge.specs.Taking.{take}
use Rattle.register_judge.proofs.LackLemmas.{items-want}
use Rattle.register_judge.proofs.ReadLemmas.{agreed-by, read-by, stopped-by}
use Rattle.register_judge.proofs.TakingLemmas.{judged-taken, judges-takes}
use Rattle.register_judge.proofs.judging.judge_all.Goals as goal

pub returns-clause-over_tables : goal.returns-clause-over_tables
returns-clause-over_tables g c = λ table sound same.
    let room = c.args.room in
    let today = c.args.today in
    let issuer = c.args.issuer.now in
    let items = c.args.items.now in
    let sitting = sitting_by newest room today issuer in
    let JudgedOn : ℤ → Type 0 = λ day. Judges c.judge_each.result (judge_items (g.V.View.cells c.args.view.now) 0 (sitting_by newest room day issuer) items) in
    judges-takes c.judge_each.result _ (take table (sitting_by newest (record_count table + room) today issuer) items)
    (ap (λ cells. judge_items cells 0 sitting items) same ∙ judged-taken table sitting items sound)
    (subst JudgedOn (to_z-of_z c.ranges.today) c.judge_each.ensures.answers)

pub returns-clause-read : goal.returns-clause-read
returns-clause-read g c =
    read-by c.judge_each.result (g.V.View.cells c.args.view.now) _ c.args.items.now (c.judge_each.ensures.by_reads refl)

pub returns-clause-agreed : goal.returns-clause-agreed
returns-clause-agreed g c =
    let view = g.V.View.cells c.args.view.now in
    let room = c.args.room in
    let issuer = c.args.issuer.now in
    let items = c.args.items.now in
    let ByReadsOn : ℤ → Type 0 = λ day. IfOk c.judge_each.result (λ outcome. IsByReads outcome view (sitting_by newest room day issuer) items) in
    agreed-by c.judge_each.result view room c.args.today issuer items
    (subst ByReadsOn (to_z-of_z c.ranges.today) (c.judge_each.ensures.by_reads refl))

pub returns-clause-wanting : goal.returns-clause-wanting
returns-clause-wanting g c = λ key is.
    let view = g.V.View.cells c.args.view.now in
    let room = c.args.room in
    let issuer = c.args.issuer.now in
    let items = c.args.items.now in
    let sitting = sitting_by newest room c.args.today issuer in
    let JudgedOn : ℤ → Type 0 = λ day. Judges c.judge_each.result (judge_items view 0 (sitting_by newest room day issuer) items) in
    items-want items view 0 sitting key
    (stopped-by c.judge_each.result (judge_items view 0 sitting items) key (subst JudgedOn (to_z-of_z c.ranges.today) c.judge_each.ensures.answers) is)
