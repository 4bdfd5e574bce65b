use Rattle.std.proofs.Common.{◌≡◌, ◌≤◌, ◌++◌, true, drop, length, take}
use Rattle.std.specs.List.{list_all}
use Rattle.golden_shelf.specs.Lines.{AreSorted, lines_under, with_lines}
use Rattle.golden_shelf.specs.Places.{is_there}
use Rattle.golden_shelf.specs.Sides.{AreRisingChanges, notes_of}
use Rattle.golden_shelf.proofs.replacing.replace_all.Given as goal

-- the notes that are left lead to the lines after all changes, and to what all notes replace
abbrev pub invariant-loop-index : goal.invariant-loop-index
invariant-loop-index l = record {
  walk : with_lines l.rows.lines (drop l.index (notes_of l.fn.notes)) ≡ with_lines l.fn.rows.lines (notes_of l.fn.notes);
  takes : take l.index (notes_of l.notes) ++ lines_under l.rows.lines (drop l.index (notes_of l.fn.notes))
      ≡ lines_under l.fn.rows.lines (notes_of l.fn.notes);
  there : list_all (is_there l.rows.lines) (drop l.index (notes_of l.fn.notes)) ≡ true;
  rising : AreRisingChanges (drop l.index (notes_of l.fn.notes));
  sorted : AreSorted l.rows.lines;
  left : drop l.index (notes_of l.notes) ≡ drop l.index (notes_of l.fn.notes);
  len : length l.notes ≡ length l.fn.notes;
  inside : l.index ≤ length l.fn.notes;
  count : length l.rows.lines ≡ length l.fn.rows.lines;
  room : l.rows.room ≡ l.fn.rows.room;
}
