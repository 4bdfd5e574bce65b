use Rattle.std.proofs.Common.{◌≡◌, ◌≤◌, ◌++◌, drop, length, map}
use Rattle.std.specs.Prelude.{flat_map}
use Rattle.copy_forms.specs.Merging.{rows_with_changes}
use Rattle.copy_forms.proofs.Passing.{alone}
use Rattle.delta_apply.proofs.json.merge.Given as goal

-- the output so far, followed by the merge of the rows and the changes that are left, is the merge of all
abbrev pub invariant-loop-index : goal.invariant-loop-index
invariant-loop-index l = record {
  walk : map (λ row. row.now) l.held.items ++ flat_map alone (rows_with_changes (drop l.index l.rows) (drop l.next l.changes))
      ≡ flat_map alone (rows_with_changes l.rows l.changes);
  within : l.next ≤ length l.changes;
}
