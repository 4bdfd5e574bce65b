use Rattle.std.proofs.Common.{◌≡◌, ◌++◌, length, map}
use Rattle.std.specs.Prelude.{flat_map}
use Rattle.std.specs.List.{All}
use Rattle.std.specs.Str.{IsUtf8}
use Rattle.copy_csv.specs.Csv.{row_line}
use Rattle.copy_csv.specs.Rows.{IsRowIn, KeysRise}
use Rattle.copy_csv.specs.Sheets.{key}
use Rattle.copy_csv.proofs.csv_rows.read_rows.Given as goal

-- the lines before what is left are those of the rows
abbrev pub invariant-loop-reader : goal.invariant-loop-reader
invariant-loop-reader l = record {
  printed : l.bytes ≡ flat_map (row_line l.wide) l.rows.items ++ l.reader;
  good : All (IsRowIn l.sheet l.wide) l.rows.items;
  rising : KeysRise (map key l.rows.items);
  utf8 : IsUtf8 l.reader;
}

abbrev pub decreases-loop-reader : goal.decreases-loop-reader
decreases-loop-reader l = length l.reader
