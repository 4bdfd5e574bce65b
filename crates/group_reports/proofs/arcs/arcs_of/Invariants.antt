use Rattle.std.proofs.Common.{◌≡◌, length, map, take}
use Rattle.std.specs.List.{All}
use Rattle.group_reports.specs.Arcs.{HasPlacesBelow, link_at}
use Rattle.group_reports.specs.Links.{link_of}
use Rattle.group_reports.proofs.arcs.arcs_of.Given as goal

-- the arcs of the rows so far were made
abbrev pub invariant-loop-row : goal.invariant-loop-row
invariant-loop-row l = record {
  links : map (link_at l.places) l.made.items ≡ map link_of (take l.row-index l.rows);
  within : All (HasPlacesBelow (length l.places)) l.made.items;
}
