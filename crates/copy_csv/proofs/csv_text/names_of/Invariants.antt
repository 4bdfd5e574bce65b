use Rattle.std.proofs.Common.{◌≡◌, length, take}
use Rattle.copy_csv.specs.Sheets.{column_names}
use Rattle.item_fields.specs.Sheets.{read_texts}
use Rattle.copy_csv.proofs.csv_text.names_of.Given as goal

-- the names up to the index are the sheet's, and there is room for 32
abbrev pub invariant-loop-index : goal.invariant-loop-index
invariant-loop-index l = (read_texts (take l.index l.names) ≡ take l.index (column_names l.sheet)) × (length l.names ≡ 32)
