use Rattle.std.proofs.Common.{◌≡◌, drop, map}
use Rattle.std.specs.BTreeSet.{insert_key}
use Rattle.std.specs.Cmp.Lexicographic.{slice_cmp}
use Rattle.std.specs.List.{flat_map, fold}
use Rattle.std.specs.Ordering.{nat_cmp}
use Rattle.group_reports.specs.Links.{link_of}
use Rattle.group_reports.specs.Places.{ends_of, leis_of}
use Rattle.group_reports.proofs.places.Places.of.Given as goal

-- together with those of this row and the rows after it they are all
abbrev pub invariant-loop-row : goal.invariant-loop-row
invariant-loop-row l =
    fold (insert_key (slice_cmp nat_cmp)) l.entities.keys (flat_map ends_of (map link_of (drop l.row-index l.rows)))
    ≡ leis_of (map link_of l.rows)
