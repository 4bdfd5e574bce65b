use Rattle.std.proofs.Common.{◌≡◌, drop, map}
use Rattle.std.specs.BTreeSet.{insert_key}
use Rattle.std.specs.List.{fold}
use Rattle.std.specs.Ordering.{nat_cmp}
use Rattle.group_reports.specs.Places.{places_in_order}
use Rattle.group_reports.proofs.links.starts_of.Given as goal

-- together with this arc and those after it they are all
abbrev pub invariant-loop-arc : goal.invariant-loop-arc
invariant-loop-arc l =
    fold (insert_key nat_cmp) l.starts.keys (map (λ arc. arc.start) (drop l.arc-index l.arcs))
    ≡ places_in_order (map (λ arc. arc.start) l.arcs)
