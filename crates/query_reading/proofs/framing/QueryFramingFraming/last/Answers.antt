use Rattle.std.proofs.Common.{subst}
use Rattle.query_reading.specs.QueryFrames.{HoldsQuery}
use Rattle.query_reading.specs.declared.stage.FrameStage.{FrameStage}
use Rattle.query_reading.proofs.QueryFronts.{long_last, packet_last, skipped_last}
use Rattle.query_reading.proofs.framing.QueryFramingFraming.last.Goals as goal

pub returns-in-LongLine : goal.returns-in-LongLine
returns-in-LongLine g c bytes holds =
    let S : FrameStage g.row.G-Head.Denot → Type 0 = λ stage. HoldsQuery g.G.Grammar.says stage c.args.held.now bytes in
    long_last g.G.Grammar.says bytes c.args.held.now c.want_of-in-LongLine.result (subst S c.in-LongLine.is holds)
    c.want_of-in-LongLine.ensures

pub returns-in-Packet : goal.returns-in-Packet
returns-in-Packet g c bytes holds =
    let S : FrameStage g.row.G-Head.Denot → Type 0 = λ stage. HoldsQuery g.G.Grammar.says stage c.args.held.now bytes in
    packet_last g.G.Grammar.says bytes c.args.held.now _ _ c.want_of-in-Packet.result (subst S c.in-Packet.is holds)
    c.want_of-in-Packet.ensures

pub returns-in-Skipped : goal.returns-in-Skipped
returns-in-Skipped g c bytes holds =
    let S : FrameStage g.row.G-Head.Denot → Type 0 = λ stage. HoldsQuery g.G.Grammar.says stage c.args.held.now bytes in
    skipped_last g.G.Grammar.says bytes c.args.held.now c.in-Skipped.refusal _ c.want_of-in-Skipped.result
    (subst S c.in-Skipped.is holds) c.want_of-in-Skipped.ensures
