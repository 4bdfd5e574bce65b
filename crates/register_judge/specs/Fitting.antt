-- How many successors the rules let a record name, and what holds for each record of a table.
use Rattle.std.specs.Prelude.{◌≡◌, ◌≤◌, List, [], ◌∷◌, length, Some, ⊤}
use Rattle.lei_code.specs.Texts.{Lei}
use Rattle.lei_records.specs.declared.item.Item.{Item}
use Rattle.lei_records.specs.declared.item.Readied.{Readied}
use Rattle.lei_records.specs.declared.rules.Rules.{Rules}
use Rattle.lei_records.specs.Cells.{successors_in}
use Rattle.lei_records.specs.Rows.{Row}
use Rattle.lei_records.specs.Tables.{Table, row_at}
use Rattle.lei_records.specs.Walks.{NameOne}

-- A record names at most as many successors as the rules let it: one by the first rules. The later rules require only
-- the shape of the field.
abbrev pub RowFits : Rules → Row → Type 0
RowFits Rules.First row = length (successors_in row) ≤ 1
RowFits Rules.Second row = ⊤
RowFits Rules.Third row = ⊤

-- The same for each record of a table.
abbrev pub TableFits : Rules → Table → Type 0
TableFits Rules.First table = NameOne table
TableFits Rules.Second table = ⊤
TableFits Rules.Third table = ⊤

-- The same for an item, if it is a record that passed the checks of its fields.
abbrev pub ItemFits : Rules → Readied → Type 0
ItemFits rules (Readied.Bad check) = ⊤
ItemFits rules (Readied.Good (Item.Record row)) = RowFits rules row
ItemFits rules (Readied.Good (Item.Relation row)) = ⊤
ItemFits rules (Readied.Good (Item.Exception item)) = ⊤

-- The same for each item of a list.
abbrev pub ItemsFit : Rules → List Readied → Type 0
ItemsFit rules [] = ⊤
ItemsFit rules (item ∷ items) = ItemFits rules item × ItemsFit rules items

-- ---- what each record has, whatever the rules

-- Each record of a table has the property.
abbrev pub EachRecord : (Row → Type 0) → Table → Type 0
EachRecord P table = (lei : Lei) (row : Row) → row_at table lei ≡ Some row → P row

-- If an item is a record that passed the checks of its fields, it has the property.
abbrev pub IfRecord : (Row → Type 0) → Readied → Type 0
IfRecord P (Readied.Bad check) = ⊤
IfRecord P (Readied.Good (Item.Record row)) = P row
IfRecord P (Readied.Good (Item.Relation row)) = ⊤
IfRecord P (Readied.Good (Item.Exception item)) = ⊤

-- Each record among items that passed the checks of its fields has the property.
abbrev pub EachRecordOf : (Row → Type 0) → List Readied → Type 0
EachRecordOf P [] = ⊤
EachRecordOf P (item ∷ items) = IfRecord P item × EachRecordOf P items
