use Rattle.std.proofs.Common.{map, take}
use Rattle.copy_csv.specs.Rows.{KeysRise, changed_key}
use Rattle.copy_csv.proofs.csv_rows.are_changes_rising.Given as goal

-- the keys so far rise
abbrev pub invariant-loop-index : goal.invariant-loop-index
invariant-loop-index l = KeysRise (map changed_key (take l.index l.changes))
