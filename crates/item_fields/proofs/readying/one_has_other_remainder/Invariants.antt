use Rattle.std.proofs.Common.{◌≡◌, length}
use Rattle.std.specs.List.{list_any}
use Rattle.lei_shapes.specs.Shape.{between_spaces, texts_at_hand}
use Rattle.item_fields.specs.Items.{has_other_remainder}
use Rattle.item_fields.proofs.readying.one_has_other_remainder.Given as goal

-- one of the texts that are left has another remainder if and only if one of all has
abbrev pub invariant-loop-left : goal.invariant-loop-left
invariant-loop-left l = list_any has_other_remainder (texts_at_hand l.left) ≡ list_any has_other_remainder (between_spaces l.text)

abbrev pub decreases-loop-left : goal.decreases-loop-left
decreases-loop-left l = length (texts_at_hand l.left)
