use Rattle.std.proofs.Common.{rules, sym, ◌∙◌, ◌≡◌, length, map}
use Rattle.std.proofs.lemmas.List.{length-map}
use Rattle.group_reports.specs.Links.{GroupTable}
use Rattle.group_reports.specs.Listings.{member_at}
use Rattle.group_reports.specs.Places.{at}
use Rattle.group_reports.proofs.GroupLemmas.{group_below, group_leis}
use Rattle.group_reports.proofs.ReportLemmas.{report_of_parts}
use Rattle.group_reports.proofs.texts.group_text.Goals as goal

pub put_disagreements-requires : goal.put_disagreements-requires
put_disagreements-requires c =
    let same : c.as_slice-3.result.now ≡ c.in_ok-group.group.items = c.as_slice-3.ensures.value in
    let members : c.as_slice.result.now ≡ c.in_ok-members.members.items = c.as_slice.ensures.value in
    group_below (length c.args.links.now.leis) c.args.root c.in_ok-members.members.items c.as_slice-3.result.now c.requires
    c.in_ok-members.ensures.below (search rules)

pub returns : goal.returns
returns c =
    let links = c.args.links.now.links in
    let leis = c.args.links.now.leis in
    let table : GroupTable = record { names = c.args.names.now; links = links } in
    let root = at leis c.args.root in
    let placed = c.in_ok-members.members.items in
    let made = map (member_at leis) placed in
    let number : c.len.result ≡ length placed = search rules in
    c.from.ensures
    ∙ report_of_parts table root c.put_root.new.out.items c.put_members.new.out.items c.put_members_line.new.out.items
    c.put_disagreements.new.out.items made c.len.result (map (at leis) c.as_slice-3.result.now)
    (search rules) (search rules) c.in_ok-put_members_line.ensures c.in_ok-put_disagreements.ensures c.in_ok-members.ensures.members
    (number ∙ sym (length-map placed (member_at leis)))
    (group_leis links leis c.args.root placed c.as_slice-3.result.now c.lei.ensures.leis c.requires c.in_ok-members.ensures.below (search rules))
