use Rattle.std.proofs.Common.{◌≡◌, ◌++◌, take}
use Rattle.std.specs.Prelude.{flat_map}
use Rattle.copy_csv.specs.Csv.{text_change_line}
use Rattle.copy_csv.proofs.csv_files.csv_delta_text.Given as goal

-- the first line is followed by the lines of the changes so far
abbrev pub invariant-loop-change : goal.invariant-loop-change
invariant-loop-change l =
    l.out.items ≡ l.initial.out.items ++ flat_map (text_change_line l.wide) (take l.change-index l.changes)
