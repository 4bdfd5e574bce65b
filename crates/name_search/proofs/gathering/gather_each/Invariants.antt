use Rattle.std.proofs.Common.{◌≤◌, length, map}
use Rattle.std.specs.Map.Iter.{deref}
use Rattle.name_search.specs.Gathering.{GathersPage}
use Rattle.name_search.specs.Searching.{is_match}
use Rattle.name_search.specs.Walks.{walk_keys}
use Rattle.name_search.proofs.gathering.gather_each.Given as goal

-- the matches under the keys so far are gathered
abbrev pub invariant-loop-key : goal.invariant-loop-key
invariant-loop-key l = record {
  gathers : GathersPage l.start (walk_keys (is_match l.wanted) l.rows (map deref l.yielded)) l.gathered.matches l.gathered.names.items;
  few : l.gathered.matches ≤ length l.yielded;
}
