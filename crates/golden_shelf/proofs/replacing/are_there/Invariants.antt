use Rattle.std.proofs.Common.{◌≡◌, drop}
use Rattle.std.specs.List.{list_all}
use Rattle.golden_shelf.specs.Places.{is_there}
use Rattle.golden_shelf.specs.Sides.{notes_of}
use Rattle.golden_shelf.proofs.replacing.are_there.Given as goal

-- the result for the notes that are left is that for all
abbrev pub invariant-loop-note : goal.invariant-loop-note
invariant-loop-note l =
    list_all (is_there l.rows.lines) (notes_of (drop l.note-index l.notes)) ≡ list_all (is_there l.rows.lines) (notes_of l.notes)
