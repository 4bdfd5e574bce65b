use Rattle.std.proofs.Common.{◌≡◌, ◌≤◌, ◌++◌, drop, length}
use Rattle.std.specs.Prelude.{flat_map}
use Rattle.copy_forms.specs.Merging.{rows_with_changes}
use Rattle.copy_forms.proofs.Passing.{alone}
use Rattle.lei_mirror.proofs.merging.merge.Given as goal

-- what was put, followed by what the remaining rows and changes result in, is what all result in
abbrev pub invariant-loop-index : goal.invariant-loop-index
invariant-loop-index l = record {
  walk : l.made.items ++ flat_map alone (rows_with_changes (drop l.index l.rows) (drop l.next l.changes)) ≡ flat_map alone (rows_with_changes l.rows l.changes);
  within : l.next ≤ length l.changes;
}
