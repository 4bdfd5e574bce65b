use Rattle.std.proofs.Common.{rules}
use Rattle.std.proofs.lemmas.Slice.Eq.{bytes_eq-Decides}
use Rattle.item_fields.proofs.SheetLemmas.{below_places, field_found, within_count}
use Rattle.item_fields.proofs.sheet.is_at.Goals as goal

pub returns-then-index-table-clause-known : goal.returns-then-index-table-clause-known
returns-then-index-table-clause-known c is =
    (field_found c.args.kind c.fields-table.result.now c.fields-table.ensures.table c.args.index _ c.args.name.now (search rules) ((bytes_eq-Decides _ c.args.name.now).1 (c.is_same.ensures.0 is))).0

pub returns-then-index-table-clause-index : goal.returns-then-index-table-clause-index
returns-then-index-table-clause-index c is = within_count c.args.kind c.fields-table.result.now c.args.index c.fields-table.ensures.table (search rules)

pub returns-then-index-table-clause-name : goal.returns-then-index-table-clause-name
returns-then-index-table-clause-name c is =
    (field_found c.args.kind c.fields-table.result.now c.fields-table.ensures.table c.args.index _ c.args.name.now (search rules) ((bytes_eq-Decides _ c.args.name.now).1 (c.is_same.ensures.0 is))).1

pub returns-then-index-table-clause-bound : goal.returns-then-index-table-clause-bound
returns-then-index-table-clause-bound c is = below_places c.args.kind c.args.index (returns-then-index-table-clause-index c is)
