use Rattle.item_fields.proofs.RowLemmas.{IsRowOfKind-row_of}
use Rattle.item_fields.proofs.laws.good_items_have_rows.Goals as goal

pub returns : goal.returns
returns c = IsRowOfKind-row_of
