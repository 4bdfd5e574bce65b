use Rattle.std.proofs.Common.{◌≡◌, length, take}
use Rattle.item_fields.specs.Sheets.{read_texts}
use Rattle.copy_csv.proofs.csv_text.texts_of.Given as goal

-- the texts up to the index are those of the row, and there is room for 32
abbrev pub invariant-loop-index : goal.invariant-loop-index
invariant-loop-index l = (read_texts (take l.index l.texts) ≡ take l.index l.row.texts) × (length l.texts ≡ 32)
