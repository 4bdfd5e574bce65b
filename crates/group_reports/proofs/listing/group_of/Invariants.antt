use Rattle.std.proofs.Common.{◌≡◌, ◌∷◌, drop, map}
use Rattle.std.specs.BTreeSet.{insert_key}
use Rattle.std.specs.List.{fold}
use Rattle.std.specs.Ordering.{nat_cmp}
use Rattle.group_reports.specs.Places.{places_in_order}
use Rattle.group_reports.proofs.listing.group_of.Given as goal

-- together with this member and those after it they are all
abbrev pub invariant-loop-member : goal.invariant-loop-member
invariant-loop-member l =
    fold (insert_key nat_cmp) l.made.keys (map (λ member. member.place) (drop l.member-index l.members))
    ≡ places_in_order (l.root ∷ map (λ member. member.place) l.members)
