use Rattle.std.proofs.Common.{◌≡◌, ◌++◌, ◌+◌, ◌≤◌, drop, length, map}
use Rattle.std.specs.List.{filter, flat_map}
use Rattle.group_reports.specs.Groups.{disagrees}
use Rattle.group_reports.specs.Places.{at}
use Rattle.group_reports.specs.Reports.{disagreement_line}
use Rattle.group_reports.proofs.reports.put_disagreeing.Given as goal

-- together with those of this entity and the entities after it they are all there
abbrev pub invariant-loop-place : goal.invariant-loop-place
invariant-loop-place l =
    let leis = map (at l.links.leis) l.places in
    record {
      out :
          l.out.items ++ flat_map (disagreement_line l.links.links) (filter (disagrees l.links.links) (map (at l.links.leis) (drop l.place-index l.places)))
          ≡ l.fn.out.items ++ flat_map (disagreement_line l.links.links) (filter (disagrees l.links.links) leis);
      count : l.count + length (filter (disagrees l.links.links) (map (at l.links.leis) (drop l.place-index l.places))) ≡ length (filter (disagrees l.links.links) leis);
      few : l.count ≤ l.place-index;
    }
