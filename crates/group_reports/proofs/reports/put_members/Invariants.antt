use Rattle.std.proofs.Common.{◌≡◌, ◌++◌, drop, map}
use Rattle.std.specs.List.{flat_map}
use Rattle.group_reports.specs.Listings.{member_at}
use Rattle.group_reports.specs.Reports.{member_line}
use Rattle.group_reports.proofs.reports.put_members.Given as goal

-- together with the lines of this member and those after it they are all there
abbrev pub invariant-loop-member : goal.invariant-loop-member
invariant-loop-member l =
    l.out.items ++ flat_map (member_line (record { names = l.names; links = l.links.links })) (map (member_at l.links.leis) (drop l.member-index l.members))
    ≡ l.fn.out.items ++ flat_map (member_line (record { names = l.names; links = l.links.links })) (map (member_at l.links.leis) l.members)
