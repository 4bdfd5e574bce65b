use Rattle.std.proofs.Common.{◌≡◌, ◌++◌, take}
use Rattle.std.specs.Prelude.{flat_map}
use Rattle.copy_csv.specs.Csv.{row_line}
use Rattle.copy_forms.specs.Merging.{put_by}
use Rattle.delta_apply.proofs.csv.put_all.Given as goal

-- what the changes so far put follows the earlier output
abbrev pub invariant-loop-change : goal.invariant-loop-change
invariant-loop-change l = l.out.items ≡ l.fn.out.items ++ flat_map (row_line l.wide) (flat_map put_by (take l.change-index l.changes))
