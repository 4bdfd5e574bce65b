use Rattle.std.proofs.Common.{◌≡◌, ◌++◌, drop, map}
use Rattle.golden_shelf.proofs.notes.keys_of.Given as goal

-- the keys so far and those of the changes that are left are all keys
abbrev pub invariant-loop-change : goal.invariant-loop-change
invariant-loop-change l =
    l.keys.items ++ map (λ change. change.0) (drop l.change-index l.changes) ≡ map (λ change. change.0) l.changes
