use Rattle.std.proofs.Common.{ap, sym, ◌∙◌}
use Rattle.lei_records.specs.Tables.{key_cmp}
use Rattle.copy_csv.specs.Sheets.{key}
use Rattle.copy_forms.proofs.Passing.{stands-equal, stands-first, stands-greater, stands-last, stands-lesser}
use Rattle.copy_forms.proofs.merging.place_row.Goals as goal

pub loop-index-init : goal.loop-index-init
loop-index-init g c = stands-first g.C.HeldChange.change c.args.changes.now c.args.row.now c.args.at

pub loop-index-preserved : goal.loop-index-preserved
loop-index-preserved g c =
    stands-lesser g.C.HeldChange.change c.args.changes.now c.args.row.now c.args.at c.loop-index.index c.index-changes-index.result c.loop-index.invariant
    c.loop-index-test.true c.index-changes-index.is
    (ap (λ r. key_cmp (key r) (key c.args.row.now)) (sym c.row.ensures) ∙ sym c.order.ensures ∙ c.in-Less.is)

pub returns-in-Equal-clause-stands : goal.returns-in-Equal-clause-stands
returns-in-Equal-clause-stands g c =
    stands-equal g.C.HeldChange.change c.args.changes.now c.args.row.now c.args.at c.loop-index.index c.index-changes-index.result c.loop-index.invariant
    c.loop-index-test.true c.index-changes-index.is
    (ap (λ r. key_cmp (key r) (key c.args.row.now)) (sym c.row.ensures) ∙ sym c.order.ensures ∙ c.in-Equal.is)

pub returns-in-Greater-clause-stands : goal.returns-in-Greater-clause-stands
returns-in-Greater-clause-stands g c =
    stands-greater g.C.HeldChange.change c.args.changes.now c.args.row.now c.args.at c.loop-index.index c.index-changes-index.result c.loop-index.invariant
    c.loop-index-test.true c.index-changes-index.is
    (ap (λ r. key_cmp (key r) (key c.args.row.now)) (sym c.row.ensures) ∙ sym c.order.ensures ∙ c.in-Greater.is)

pub returns-clause-stands : goal.returns-clause-stands
returns-clause-stands g c =
    stands-last g.C.HeldChange.change c.args.changes.now c.args.row.now c.args.at c.loop-index.index c.loop-index.invariant c.loop-index-test.false
