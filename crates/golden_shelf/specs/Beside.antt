-- Beside: keys and texts in two lists, as lines.
use Rattle.std.specs.Prelude.{ℕ, List, map, zip}
use Rattle.lei_records.specs.declared.view.RowKey.{RowKey}
use Rattle.copy_csv.specs.declared.rows.RowTexts.{RowTexts}
use Rattle.golden_shelf.specs.Keys.{key_texts}
use Rattle.golden_shelf.specs.Lines.{KeyedLine}

-- Lines, with the total number of lines that there is room for.
pub record LinesState : Type 0 where
  pub lines : List KeyedLine
  pub room : ℕ

-- The lines that a list of keys and a list of texts form.
abbrev pub lines_in : List RowKey → List RowTexts → List KeyedLine
lines_in keys texts = zip (map key_texts keys) texts
