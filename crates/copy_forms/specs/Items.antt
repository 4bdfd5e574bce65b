-- Items of the register as the JSON records of their rows.
use Rattle.lei_code.specs.Texts.{Text}
use Rattle.lei_records.specs.declared.item.Item.{Item}
use Rattle.register_words.specs.declared.sheets.Sheet.{Sheet}
use Rattle.copy_forms.specs.Json.{json_record}
use Rattle.copy_csv.specs.Sheets.{SheetRow, row_of_texts}

-- The row of an item, in the sheet of its kind.
abbrev pub sheet_row : Item → SheetRow
sheet_row (Item.Record row) = row_of_texts Sheet.Lei row
sheet_row (Item.Relation row) = row_of_texts Sheet.Rr row
sheet_row (Item.Exception item) = row_of_texts Sheet.Repex item.0

-- The item's row as a JSON object of the fields that are present.
abbrev pub item_text : Item → Text
item_text item = json_record (sheet_row item)
