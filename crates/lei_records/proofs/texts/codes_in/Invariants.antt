use Rattle.std.proofs.Common.{◌≡◌, ◌++◌, length}
use Rattle.lei_shapes.specs.Shape.{between_spaces, texts_at_hand}
use Rattle.lei_records.proofs.texts.codes_in.Given as goal

-- the LEIs so far, followed by those of the text that is left, are those of the whole text
abbrev pub invariant-loop-left : goal.invariant-loop-left
invariant-loop-left l = l.codes ++ texts_at_hand l.left ≡ between_spaces l.text

abbrev pub decreases-loop-left : goal.decreases-loop-left
decreases-loop-left l = length (texts_at_hand l.left)
