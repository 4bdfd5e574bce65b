use Rattle.query_reading.specs.QueryFrames.{HoldsQuery}
use Rattle.query_reading.specs.declared.stage.FrameStage.{FrameStage}
use Rattle.query_reading.proofs.framing.QueryFramingFraming.front.Goals as goal
use Rattle.std.proofs.Common.{subst}

pub returns-in-Line : goal.returns-in-Line
returns-in-Line g c bytes holds =
    let S : FrameStage g.row.G-Head.Denot → Type 0 = λ stage. HoldsQuery g.G.Grammar.says stage c.args.held.now bytes in
    c.read_line.ensures bytes (subst S c.in-Line.is holds)

pub returns-in-LongLine : goal.returns-in-LongLine
returns-in-LongLine g c bytes holds =
    let S : FrameStage g.row.G-Head.Denot → Type 0 = λ stage. HoldsQuery g.G.Grammar.says stage c.args.held.now bytes in
    c.skip_line.ensures bytes (subst S c.in-LongLine.is holds)

pub returns-in-Packet : goal.returns-in-Packet
returns-in-Packet g c bytes holds =
    let S : FrameStage g.row.G-Head.Denot → Type 0 = λ stage. HoldsQuery g.G.Grammar.says stage c.args.held.now bytes in
    c.read_packet.ensures bytes (subst S c.in-Packet.is holds)

pub returns-in-Skipped : goal.returns-in-Skipped
returns-in-Skipped g c bytes holds =
    let S : FrameStage g.row.G-Head.Denot → Type 0 = λ stage. HoldsQuery g.G.Grammar.says stage c.args.held.now bytes in
    c.skip_packet.ensures bytes (subst S c.in-Skipped.is holds)
