use Rattle.line_reading.proofs.LineLemmas.{HasNoEnd-nil}
use Rattle.query_reading.proofs.QueryFronts.{long_ends}
use Rattle.query_reading.proofs.framing.QueryFraming.skip_line.Goals as goal

pub returns-in-Some : goal.returns-in-Some
returns-in-Some g c bytes holds =
    long_ends g.G.Grammar.says bytes c.args.held.now c.in-Some.end c.want_of.result holds
    (c.in-Some.ensures.found HasNoEnd-nil)
    c.in-Some.ensures.within c.want_of.ensures
