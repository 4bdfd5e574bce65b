use Rattle.std.proofs.Common.{◌∙◌, ◌+◌, ◌-◌, ap, arith}
use Rattle.std.specs.Int.{from_bool}
use Rattle.register_demo.specs.Plan.{block_count}
use Rattle.register_demo.specs.Requests.{demo_upload, uploads_from, uploads_of}
use Rattle.register_demo.proofs.Stages.{bool-is, bool-most, sending-more, uploads-cut}
use Rattle.register_demo.proofs.asking.send_uploads.Goals as goal

pub loop-block-preserved : goal.loop-block-preserved
loop-block-preserved g c =
    let group = c.args.uploads.group in
    let n = c.args.uploads.n in
    let block = c.loop-block.block in
    let blocks = c.block_count-block-end.ensures.value in
    let kept = c.loop-block.invariant in
    let sent = c.in_ok-send_block.ensures in
    let most = bool-most c.in_ok-send_block.field-0 in
    let one = c.from.ensures in
    let within = c.loop-block-test.true in (
      omega arith,
      omega (arith, blocks, within),
      omega (arith, most, one, kept.2),
      sending-more c.args.office.now.office c.args.uploads.count (uploads_of group n) c.args.answers.now.items c.loop-block.office.office
          c.send_block.new.office.office (c.args.uploads.count + block - 1) (c.args.uploads.count + (block + 1) - 1) (uploads_from group n block (block_count n + 1 - block))
          (uploads_from group n (block + 1) (block_count n + 1 - (block + 1))) (demo_upload group n block) c.loop-block.answers.items
          c.send_block.new.answers.items c.loop-block.told (c.loop-block.told + c.from.result) kept.3
          (uploads-cut group n block (block_count n) (omega (arith, blocks, within))) (omega (arith, kept.0)) sent.office sent.answers
          (ap (λ k. c.loop-block.told + k) (one ∙ ap from_bool sent.told ∙ bool-is _)),
      c.report_progress.ensures.same ∙ kept.4,
    )
