use Rattle.std.proofs.Common.{◌+◌, ◌*◌, arith}
use Rattle.register_words.specs.declared.request.Request.TheVariants.{Publish}
use Rattle.register_demo.proofs.Making.{makes-relationships}
use Rattle.register_demo.proofs.Stages.{answers-one}
use Rattle.register_demo.proofs.session.make_relationships.Goals as goal

pub returns-clause-makes : goal.returns-clause-makes
returns-clause-makes g c =
    let blocks = c.block_count-blocks.ensures.value in
    let asked = answers-one c.send_uploads.new.office.office c.ask.new.office.office (2 * c.block_count-blocks.result + 5) (Publish 2)
    c.in_ok-published.published c.in_ok-published.ensures.reply c.in_ok-published.ensures.next in
    makes-relationships c.args.n (c.block_count-blocks.result + 5) (2 * c.block_count-blocks.result + 5) c.args.office.now.office
    c.send_uploads.new.office.office c.ask.new.office.office c.args.answers.now.items c.send_uploads.new.answers.items c.in_ok-published.published
    (omega (arith, blocks)) c.in_ok-send_uploads.ensures.answers c.in_ok-send_uploads.ensures.office (omega (arith, blocks)) asked
