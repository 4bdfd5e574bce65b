use Rattle.std.proofs.Common.{◌≡◌, ◌+◌, ◌≤◌, true, map, take}
use Rattle.std.specs.List.{list_all}
use Rattle.name_search.specs.NameTables.{key_and_name}
use Rattle.name_search.specs.Walks.{is_noted}
use Rattle.name_search.proofs.opening.noted_rows.Given as goal

-- the rows so far were built, in one step each, and are noted
abbrev pub invariant-loop-row : goal.invariant-loop-row
invariant-loop-row g l = record {
  names : l.made.items ≡ map key_and_name (take l.row-index l.rows);
  noted : list_all (is_noted l.postings) l.made.items ≡ true;
  steps : l.steps ≤ l.fn.steps + l.row-index;
  stay : l.fn.steps ≤ l.steps;
}
