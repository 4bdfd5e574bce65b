use Rattle.std.proofs.Common.{◌+◌, rules}
use Rattle.register_demo.proofs.Making.{makes-records}
use Rattle.register_demo.proofs.session.make_records.Goals as goal

pub returns-clause-makes : goal.returns-clause-makes
returns-clause-makes g c =
    let accredited = c.in_ok-accredit.ensures in
    let published = c.in_ok-told.ensures in
    makes-records c.args.n (c.block_count.result + 2) c.args.office.now.office c.accredit.new.office.office c.send_uploads.new.office.office
    c.publish_records.new.office.office c.args.answers.now.items c.send_uploads.new.answers.items accredited.0 accredited.1
    c.in_ok-told.told.0 published.0 c.in_ok-told.told.1 accredited.2 c.in_ok-send_uploads.ensures.answers c.in_ok-send_uploads.ensures.office
    (search (rules, c.block_count.ensures.value)) published.1
