use Rattle.std.proofs.Common.{◌≡◌, ◌+◌, ◌≤◌, ◌++◌, drop, length, take}
use Rattle.golden_shelf.specs.Sides.{notes_of}
use Rattle.golden_shelf.specs.Walks.{changes_back, interleave}
use Rattle.golden_shelf.proofs.weaving.weave_all.Given as goal

-- the walk over those that wait and the notes that are left completes the walk over all, and so does what it replaces
abbrev pub invariant-loop-index : goal.invariant-loop-index
invariant-loop-index l = record {
  walk : l.rows.lines ++ interleave l.rest.lines (drop l.index (notes_of l.fn.notes)) ≡ interleave l.fn.rows.lines (notes_of l.fn.notes);
  takes : take l.index (notes_of l.notes) ++ changes_back l.rest.lines (drop l.index (notes_of l.fn.notes))
      ≡ changes_back l.fn.rows.lines (notes_of l.fn.notes);
  left : drop l.index (notes_of l.notes) ≡ drop l.index (notes_of l.fn.notes);
  len : length l.notes ≡ length l.fn.notes;
  inside : l.index ≤ length l.fn.notes;
  few : length l.rows.lines + length l.rest.lines ≤ length l.fn.rows.lines + l.index;
  rows_room : l.rows.room ≡ l.fn.rows.room;
  rest_room : l.rest.room ≡ l.fn.rest.room;
}
