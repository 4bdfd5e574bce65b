use Rattle.std.proofs.Common.{rules, ap, sym, ◌∙◌, ◌≡◌, length, map}
use Rattle.std.proofs.lemmas.List.{length-map}
use Rattle.group_reports.specs.declared.kinds.LinkKind.{LinkKind}
use Rattle.group_reports.specs.Arcs.{AreFirstEnds, link_at}
use Rattle.group_reports.specs.Links.{link_of}
use Rattle.group_reports.specs.Places.{FindsTops, leis_of}
use Rattle.group_reports.proofs.IndexLemmas.{indexed}
use Rattle.group_reports.proofs.links.Links.of.Goals as goal

pub invariant_of-result : goal.invariant_of-result
invariant_of-result c =
    let leis = c.in_ok-places.places in
    let rows : c.of-3.result.value ≡ c.args.rows.now = search rules in
    let links = map link_of c.of-3.result.value in
    let arcs = c.in_ok-arcs.arcs.items in
    let counted : c.len-count.result ≡ length links = c.len-count.ensures ∙ sym (length-map c.of-3.result.value link_of ∙ ap length rows) in
    let are : leis ≡ leis_of links = search rules in
    let linked : map (link_at leis) arcs ≡ links = search rules in
    let parents : AreFirstEnds (length leis) arcs LinkKind.Direct c.in_ok-tree.tree = search rules in
    let ultimates : AreFirstEnds (length leis) arcs LinkKind.Ultimate c.in_ok-ultimates.ultimates.items = search rules in
    let tops : FindsTops c.in_ok-tree.tree c.len-count.result c.in_ok-tops.tops.items = search rules in
    indexed links c.len-count.result leis arcs c.in_ok-starts.starts.items c.in_ok-tree.tree c.in_ok-ultimates.ultimates.items
    c.in_ok-tops.tops.items counted are c.in_ok-arcs.ensures.within linked (search rules) parents ultimates tops
