use Rattle.std.proofs.Common.{rules, append-nil, ap, refl, sym, ◌∙◌, ◌≡◌, ◌+◌, ◌++◌, ◌<◌, [], length, map}
use Rattle.std.proofs.lemmas.List.{nil_from_length}
use Rattle.group_reports.specs.Groups.{starts}
use Rattle.group_reports.specs.Listings.{at_depth, member_at, placed_at}
use Rattle.group_reports.specs.Places.{at}
use Rattle.group_reports.proofs.DownLemmas.{down_end, down_on}
use Rattle.group_reports.proofs.LevelPlaces.{below_added, level_added, next_leis}
use Rattle.group_reports.proofs.ListLemmas.{has}
use Rattle.group_reports.proofs.listing.members.Goals as goal

pub returns-then-is_empty-clause-members : goal.returns-then-is_empty-clause-members
returns-then-is_empty-clause-members c =
    let links = c.args.links.now.links in
    let leis = c.args.links.now.leis in
    let root = at leis c.args.root in
    let level = c.loop-steps.level.items in
    let next = c.in_ok-next.next.items in
    let made = map (member_at leis) c.loop-steps.made.items in
    let within : c.loop-steps.steps < length links = search rules in
    let count : length next ≡ 0 = search rules in
    let none : next ≡ [] = nil_from_length next count in
    let leis_are = next_leis links leis c.tree.ensures.leis c.tree.result.now c.tree.ensures.parents c.args.root c.requires level next
    c.loop-steps.invariant.below (search rules) c.in_ok-next.ensures.order (search rules) in
    down_end links root made made (has (map (at leis) level)) c.loop-steps.steps (starts links) refl c.loop-steps.invariant.down within
    (sym (append-nil made)
    ∙ ap (λ l. made ++ map (at_depth (c.loop-steps.steps + 1)) l) (sym (ap (map (at leis)) none) ∙ leis_are))
    refl

pub loop-steps-preserved : goal.loop-steps-preserved
loop-steps-preserved c =
    let links = c.args.links.now.links in
    let leis = c.args.links.now.leis in
    let root = at leis c.args.root in
    let level = c.loop-steps.level.items in
    let next = c.in_ok-next.next.items in
    let depth = c.loop-steps.steps + 1 in
    let within : c.loop-steps.steps < length links = search rules in
    let leis_are = next_leis links leis c.tree.ensures.leis c.tree.result.now c.tree.ensures.parents c.args.root c.requires level next
    c.loop-steps.invariant.below (search rules) c.in_ok-next.ensures.order (search rules) in
    let added : c.add_level.new.made.items ≡ c.loop-steps.made.items ++ map (placed_at depth) next = search rules in
    record {
      down = down_on links root (map (member_at leis) c.loop-steps.made.items) (map (member_at leis) c.add_level.new.made.items)
          (has (map (at leis) level)) (has (map (at leis) next)) c.loop-steps.steps (starts links) refl c.loop-steps.invariant.down within
          (level_added leis depth c.loop-steps.made.items c.add_level.new.made.items next added
          ∙ ap (λ l. map (member_at leis) c.loop-steps.made.items ++ map (at_depth depth) l) leis_are)
          (λ lei. ap (λ l. has l lei) leis_are);
      below = search rules;
      made_below = below_added (length leis) depth c.loop-steps.made.items c.add_level.new.made.items next added
          c.loop-steps.invariant.made_below (search rules);
    }
