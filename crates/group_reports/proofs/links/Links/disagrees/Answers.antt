use Rattle.std.proofs.Common.{rules, ap, arith, ◌∙◌, ◌≡◌, ◌<◌, length, not, None}
use Rattle.std.proofs.lemmas.List.{get_or_read}
use Rattle.group_reports.specs.Groups.{top}
use Rattle.group_reports.specs.Links.{reported}
use Rattle.group_reports.specs.Places.{FindsEach, are_same, step_up}
use Rattle.group_reports.proofs.IndexLemmas.{disagrees_at}
use Rattle.group_reports.proofs.links.Links.disagrees.Goals as goal

pub returns : goal.returns
returns c =
    let links = c.args.self.now.links in
    let leis = c.args.self.now.leis in
    let place = c.args.place in
    let ultimates = c.self.inside.ultimates.items in
    let tops = c.self.inside.tops.items in
    let reports : FindsEach leis ultimates (reported links) = search rules in
    let computes : FindsEach leis tops (top links) = search rules in
    let first : place < length ultimates = omega (arith, reports.counted, c.requires) in
    let second : place < length tops = omega (arith, computes.counted, c.requires) in
    let one : c.index.result.now ≡ step_up ultimates place = get_or_read ultimates place c.index.result.now first c.index.ensures None in
    let other : c.index-2.result.now ≡ step_up tops place = get_or_read tops place c.index-2.result.now second c.index-2.ensures None in
    ap not (c.is_same.ensures ∙ (ap (λ o. are_same o c.index-2.result.now) one ∙ ap (are_same (step_up ultimates place)) other))
    ∙ disagrees_at links leis ultimates tops place (search rules) reports computes c.requires
