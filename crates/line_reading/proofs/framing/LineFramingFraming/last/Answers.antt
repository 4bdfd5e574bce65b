use Rattle.line_reading.proofs.LineFronts.{long_last}
use Rattle.line_reading.proofs.framing.LineFramingFraming.last.Goals as goal

pub returns-then-self : goal.returns-then-self
returns-then-self c bytes holds =
    long_last c.args.self.now.skips c.args.self.now.seen c.args.held.now bytes c.refusal_of.result c.if-self.true
    c.refusal_of.ensures holds
