use Rattle.std.proofs.Common.{◌≡◌, length}
use Rattle.std.specs.List.{list_any}
use Rattle.std.specs.Str.{bytes_eq}
use Rattle.lei_shapes.specs.Shape.{texts_at_hand}
use Rattle.lei_shapes.proofs.codes.is_listed_in.Given as goal

-- the text is among those that are left if and only if it is among all
abbrev pub invariant-loop-left : goal.invariant-loop-left
invariant-loop-left l = list_any (bytes_eq l.text) (texts_at_hand l.left) ≡ list_any (bytes_eq l.text) (texts_at_hand l.several)

abbrev pub decreases-loop-left : goal.decreases-loop-left
decreases-loop-left l = length (texts_at_hand l.left)
