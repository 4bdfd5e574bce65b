use Rattle.std.proofs.Common.{rules, ◌<◌, length}
use Rattle.group_reports.proofs.ReportLemmas.{member_below}
use Rattle.group_reports.proofs.reports.put_members.Goals as goal

pub put_member-requires : goal.put_member-requires
put_member-requires c =
    let within : c.loop-member.member-index < length c.args.members.now = search rules in
    member_below (length c.args.links.now.leis) c.args.members.now c.loop-member.member-index _ c.requires within
