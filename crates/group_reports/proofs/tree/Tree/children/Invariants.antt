use Rattle.std.proofs.Common.{◌≡◌, ◌==◌, ◌&&◌, ◌||◌, ℕ, drop, length, not}
use Rattle.group_reports.specs.Places.{AreBelow, has_place, has_some, step_up}
use Rattle.group_reports.proofs.tree.Tree.children.Given as goal

-- together with the children of this place and those after it they are all
abbrev pub invariant-loop-parent : goal.invariant-loop-parent
invariant-loop-parent l = record {
  has : (place : ℕ) → (has_place l.children.keys place || not (place == l.root) && has_some (drop l.parent-index l.places) (step_up l.self place))
      ≡ (not (place == l.root) && has_some l.places (step_up l.self place));
  below : AreBelow (length l.self) l.children.keys;
}
