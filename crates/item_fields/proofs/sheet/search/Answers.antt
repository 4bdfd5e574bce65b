use Rattle.std.proofs.Common.{sym, ◌∙◌}
use Rattle.item_fields.proofs.SheetLemmas.{below_places, field_found, no_field_found, within_count}
use Rattle.item_fields.proofs.sheet.search.Goals as goal

pub returns-then-eq-clause-known : goal.returns-then-eq-clause-known
returns-then-eq-clause-known c =
    sym (field_found c.args.kind c.fields-table.result.now c.fields-table.ensures.table c.loop-index.index _ c.args.name.now c.loop-index-test.true (sym c.eq.ensures ∙ c.if-eq.true)).0

pub returns-then-eq-clause-index : goal.returns-then-eq-clause-index
returns-then-eq-clause-index c = (
  within_count c.args.kind c.fields-table.result.now c.loop-index.index c.fields-table.ensures.table c.loop-index-test.true,
  (field_found c.args.kind c.fields-table.result.now c.fields-table.ensures.table c.loop-index.index _ c.args.name.now c.loop-index-test.true (sym c.eq.ensures ∙ c.if-eq.true)).1,
)

pub returns-then-eq-clause-bound : goal.returns-then-eq-clause-bound
returns-then-eq-clause-bound c =
    below_places c.args.kind c.loop-index.index (within_count c.args.kind c.fields-table.result.now c.loop-index.index c.fields-table.ensures.table c.loop-index-test.true)

pub returns-clause-known : goal.returns-clause-known
returns-clause-known c =
    sym (no_field_found c.args.kind c.fields-table.result.now c.fields-table.ensures.table c.loop-index.index c.args.name.now c.loop-index-test.false c.loop-index.invariant)
