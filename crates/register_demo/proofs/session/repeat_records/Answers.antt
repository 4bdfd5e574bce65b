use Rattle.std.proofs.Common.{◌+◌, ◌*◌, arith}
use Rattle.register_demo.proofs.Making.{repeats}
use Rattle.register_demo.proofs.session.repeat_records.Goals as goal

pub returns-clause-repeats : goal.returns-clause-repeats
returns-clause-repeats g c =
    let blocks = c.block_count-blocks.ensures.value in
    repeats c.args.n (2 * c.block_count-blocks.result + 6) (3 * c.block_count-blocks.result + 6) c.in_ok-told.told c.args.office.now.office
    c.send_uploads.new.office.office c.ask_for_deltas.new.office.office c.in_ok-deltas.deltas.0 c.in_ok-deltas.deltas.1 (omega (arith, blocks))
    c.in_ok-told.ensures.told c.in_ok-told.ensures.office (omega (arith, blocks)) c.in_ok-deltas.ensures.answers c.in_ok-deltas.ensures.legal
