-- What is read from a cell.
use Rattle.std.specs.Prelude.{Bool, false, Option, Some, None}
use Rattle.lei_code.specs.Texts.{Text}
use Rattle.lei_records.specs.declared.item.Item.{Item}
use Rattle.lei_records.specs.Cells.{holds}
use Rattle.lei_records.specs.Relations.{is_active}
use Rattle.lei_records.specs.Rows.{Row}

-- The row of a record, if the item is one.
abbrev pub record_row : Option Item → Option Row
record_row (Some (Item.Record row)) = Some row
record_row item = None

-- The row of a relationship, if the item is one.
abbrev pub relation_row_in : Option Item → Option Row
relation_row_in (Some (Item.Relation row)) = Some row
relation_row_in item = None

-- There is a record, and it is live and has this authority key.
abbrev pub row_holds : Text → Text → Option Row → Bool
row_holds authority id None = false
row_holds authority id (Some row) = holds authority id row

-- There is a relationship, and it is active.
abbrev pub is_active_row : Option Row → Bool
is_active_row None = false
is_active_row (Some row) = is_active row
