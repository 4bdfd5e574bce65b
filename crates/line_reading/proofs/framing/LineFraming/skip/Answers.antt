use Rattle.line_reading.proofs.LineFronts.{long_ends}
use Rattle.line_reading.proofs.LineLemmas.{HasNoEnd-nil}
use Rattle.line_reading.proofs.framing.LineFraming.skip.Goals as goal

pub returns-in-Some : goal.returns-in-Some
returns-in-Some c bytes holds =
    long_ends c.args.self.now.seen c.args.held.now bytes c.args.self.now.refusals c.in-Some.end c.refusal_of.result holds
    (c.in-Some.ensures.found HasNoEnd-nil) c.in-Some.ensures.within c.refusal_of.ensures c.requires.none
