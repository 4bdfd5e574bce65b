use Rattle.std.proofs.Common.{◌≡◌, map, take}
use Rattle.register_history.specs.Publishing.{row_change_of}
use Rattle.register_state.proofs.publishing.changes_of.Given as goal

abbrev pub invariant-loop-told : goal.invariant-loop-told
invariant-loop-told l = l.changes.items ≡ map row_change_of (take l.told-index l.touched)
