use Rattle.std.proofs.Common.{length, map}
use Rattle.group_reports.specs.Listings.{member_at}
use Rattle.group_reports.specs.Places.{AreBelow, at}
use Rattle.group_reports.proofs.DownLemmas.{Down}
use Rattle.group_reports.proofs.ListLemmas.{has}
use Rattle.group_reports.proofs.listing.members.Given as goal

-- the walk reached a level, and together with those below it the members are all
abbrev pub invariant-loop-steps : goal.invariant-loop-steps
invariant-loop-steps l = record {
  down : Down l.links.links (at l.links.leis l.root) (map (member_at l.links.leis) l.made.items) (has (map (at l.links.leis) l.level.items)) l.steps;
  below : AreBelow (length l.links.leis) l.level.items;
  made_below : AreBelow (length l.links.leis) (map (λ member. member.place) l.made.items);
}
