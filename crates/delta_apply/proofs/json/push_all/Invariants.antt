use Rattle.std.proofs.Common.{◌≡◌, ◌++◌, map, take}
use Rattle.std.specs.Prelude.{flat_map}
use Rattle.copy_forms.specs.Merging.{put_by}
use Rattle.delta_apply.proofs.json.push_all.Given as goal

-- what the changes so far put follows the earlier output
abbrev pub invariant-loop-change : goal.invariant-loop-change
invariant-loop-change l =
    map (λ row. row.now) l.held.items ≡ map (λ row. row.now) l.fn.held.items ++ flat_map put_by (take l.change-index l.changes)
