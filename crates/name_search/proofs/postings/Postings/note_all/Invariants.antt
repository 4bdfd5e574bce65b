use Rattle.std.proofs.Common.{◌≡◌, true, take}
use Rattle.std.specs.List.{list_all}
use Rattle.name_search.specs.Walks.{NotesStay, is_noted}
use Rattle.name_search.proofs.postings.Postings.note_all.Given as goal

-- the rows so far are noted, and what was noted still is
abbrev pub invariant-loop-row : goal.invariant-loop-row
invariant-loop-row l = record {
  stays : NotesStay l.fn.self l.self;
  noted : list_all (is_noted l.self) (take l.row-index l.rows) ≡ true;
}
