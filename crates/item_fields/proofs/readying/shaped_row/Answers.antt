use Rattle.std.proofs.Common.{not, sym, ap, ◌∙◌, refl, take}
use Rattle.item_fields.specs.declared.readying.FieldCheck.{FieldCheck}
use Rattle.item_fields.proofs.RowSteps.{count_within, row_step, row_size}
use Rattle.item_fields.proofs.SheetLemmas.{first_in, first_in-all, first_in-yes, first_in-no, first_in-past, has_text, printed_in-all, printed_in-past, row_table}
use Rattle.item_fields.proofs.readying.shaped_row.Goals as goal

pub bounds-texts-index : goal.bounds-texts-index
bounds-texts-index c = has_text c.args.kind c.fields-table.result.now c.args.texts.now c.loop-index.index c.fields-table.ensures.table c.requires c.loop-index-test.true

pub returns-then-not-fits-clause-misshapen : goal.returns-then-not-fits-clause-misshapen
returns-then-not-fits-clause-misshapen c =
    let table = c.fields-table.result.now in
    let texts = c.args.texts.now in
    let index = c.loop-index.index in
    let bound = c.loop-index-test.true in
    first_in-yes FieldCheck.Shape c.facts_at-facts.result table texts index _ _ bound (has_text c.args.kind table texts index c.fields-table.ensures.table c.requires bound) (sym c.in_ok-fits.ensures.fits ∙ ap not c.if-not-fits.true)
    ∙ (c.loop-index.invariant.misshapen ∙ (ap (λ facts. first_in FieldCheck.Shape facts table texts) c.facts_at-facts.ensures ∙ first_in-all c.args.rules FieldCheck.Shape c.args.kind table texts c.fields-table.ensures.table))

pub loop-index-preserved : goal.loop-index-preserved
loop-index-preserved c =
    let table = c.fields-table.result.now in
    let texts = c.args.texts.now in
    let index = c.loop-index.index in
    let bound = c.loop-index-test.true in
    let within = has_text c.args.kind table texts index c.fields-table.ensures.table c.requires bound in
    let next = c.in_ok-fits.ensures.row c.if-not-fits.false in
    record {
      misshapen = first_in-no FieldCheck.Shape c.facts_at-facts.result table texts index _ _ bound within (sym c.in_ok-fits.ensures.fits ∙ ap not c.if-not-fits.false) ∙ c.loop-index.invariant.misshapen;
      row = row_step _ c.loop-index.row _ _ c.row_len-count.result table texts index _ _ refl bound within refl next ∙ c.loop-index.invariant.row;
      short = row_size _ c.loop-index.row _ _ index c.loop-index.invariant.short next;
    }

pub returns-clause-misshapen : goal.returns-clause-misshapen
returns-clause-misshapen c =
    let table = c.fields-table.result.now in
    let texts = c.args.texts.now in
    first_in-past FieldCheck.Shape c.facts_at-facts.result table texts c.loop-index.index c.loop-index-test.false
    ∙ (c.loop-index.invariant.misshapen ∙ (ap (λ facts. first_in FieldCheck.Shape facts table texts) c.facts_at-facts.ensures ∙ first_in-all c.args.rules FieldCheck.Shape c.args.kind table texts c.fields-table.ensures.table))

pub returns-clause-row : goal.returns-clause-row
returns-clause-row c none =
    let n = c.row_len-count.result in
    let table = c.fields-table.result.now in
    printed_in-past c.loop-index.row (take n table) c.args.texts.now c.loop-index.index (count_within n table c.loop-index.index c.loop-index-test.false)
    ∙ (c.loop-index.invariant.row ∙ printed_in-all c.args.kind (take n table) c.args.texts.now (row_table c.args.kind n table c.row_len-count.ensures c.fields-table.ensures.table))
