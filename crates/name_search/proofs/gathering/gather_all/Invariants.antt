use Rattle.std.proofs.Common.{◌≤◌, filter, take}
use Rattle.name_search.specs.Gathering.{GathersPage}
use Rattle.name_search.specs.Searching.{is_match}
use Rattle.name_search.proofs.gathering.gather_all.Given as goal

-- the matches among the rows so far are gathered
abbrev pub invariant-loop-row : goal.invariant-loop-row
invariant-loop-row l = record {
  gathers : GathersPage l.start (filter (is_match l.wanted) (take l.row-index l.rows)) l.gathered.matches l.gathered.names.items;
  few : l.gathered.matches ≤ l.row-index;
}
