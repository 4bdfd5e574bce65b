use Rattle.std.proofs.Common.{◌≡◌, ◌++◌, take}
use Rattle.std.specs.Prelude.{flat_map}
use Rattle.copy_forms.specs.Merging.{put_by}
use Rattle.lei_mirror.proofs.merging.push_all.Given as goal

-- what the changes so far put was appended
abbrev pub invariant-loop-change : goal.invariant-loop-change
invariant-loop-change l = l.made.items ≡ l.fn.made.items ++ flat_map put_by (take l.change-index l.changes)
