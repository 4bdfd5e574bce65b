use Rattle.std.proofs.Common.{◌≡◌, ◌++◌, length, map}
use Rattle.std.specs.Prelude.{flat_map}
use Rattle.std.specs.List.{All}
use Rattle.std.specs.Str.{IsUtf8}
use Rattle.copy_csv.specs.Csv.{change_line}
use Rattle.copy_csv.specs.Rows.{IsChangeIn, KeysRise, changed_key}
use Rattle.copy_csv.proofs.csv_rows.read_changes.Given as goal

-- the lines before what is left are those of the changes
abbrev pub invariant-loop-reader : goal.invariant-loop-reader
invariant-loop-reader l = record {
  printed : l.bytes ≡ flat_map (change_line l.wide) l.changes.items ++ l.reader;
  good : All (IsChangeIn l.sheet l.wide) l.changes.items;
  rising : KeysRise (map changed_key l.changes.items);
  utf8 : IsUtf8 l.reader;
}

abbrev pub decreases-loop-reader : goal.decreases-loop-reader
decreases-loop-reader l = length l.reader
