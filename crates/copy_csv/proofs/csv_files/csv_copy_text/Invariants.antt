use Rattle.std.proofs.Common.{◌≡◌, ◌++◌, take}
use Rattle.std.specs.Prelude.{flat_map}
use Rattle.copy_csv.specs.Csv.{joined_line}
use Rattle.copy_csv.proofs.csv_files.csv_copy_text.Given as goal

-- the first line is followed by the lines of the rows so far
abbrev pub invariant-loop-texts : goal.invariant-loop-texts
invariant-loop-texts l = l.out.items ≡ l.initial.out.items ++ flat_map (joined_line l.wide) (take l.texts-index l.rows)
