use Rattle.std.proofs.Common.{◌≡◌, ◌++◌, Some, map}
use Rattle.std.specs.Vec.Iter.{into_iter_items}
use Rattle.upload_format.proofs.ordered.all_some.Given as goal

-- the items so far, followed by what is left, are all that was read
abbrev pub invariant-loop-item : goal.invariant-loop-item
invariant-loop-item l = map Some l.items.items ++ into_iter_items l.item-iterator ≡ l.fn.read.items
