-- The keys of rows, by sheet.
use Rattle.std.specs.Prelude.{Bool, true, false}
use Rattle.lei_records.specs.declared.view.RowKey.{RowKey}
use Rattle.lei_records.specs.Tables.{KeyTexts, exception_key, record_key, relation_key}
use Rattle.register_words.specs.declared.sheets.Sheet.{Sheet}

-- The sheet that has the row of a key.
abbrev pub sheet_of_key : RowKey → Sheet
sheet_of_key (RowKey.Rec lei) = Sheet.Lei
sheet_of_key (RowKey.Rel start kind end) = Sheet.Rr
sheet_of_key (RowKey.Exc lei category) = Sheet.Repex

-- A key as the texts that its row starts with.
abbrev pub key_texts : RowKey → KeyTexts
key_texts (RowKey.Rec lei) = record_key lei
key_texts (RowKey.Rel start kind end) = relation_key start kind end
key_texts (RowKey.Exc lei category) = exception_key lei category

-- The key is of this sheet.
abbrev pub is_key_of : Sheet → RowKey → Bool
is_key_of Sheet.Lei (RowKey.Rec lei) = true
is_key_of Sheet.Rr (RowKey.Rel start kind end) = true
is_key_of Sheet.Repex (RowKey.Exc lei category) = true
is_key_of sheet key = false
