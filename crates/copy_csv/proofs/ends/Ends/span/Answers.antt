use Rattle.copy_csv.proofs.CutLemmas.{span-of_first, span-of_later}
use Rattle.copy_csv.proofs.ends.Ends.span.Goals as goal

pub returns-then-index-eq0 : goal.returns-then-index-eq0
returns-then-index-eq0 c = span-of_first c.args.self.now c.args.index c.at-end.result c.if-index-eq0.true c.requires c.at-end.ensures

pub returns : goal.returns
returns c = span-of_later c.args.self.now c.args.index c.at.result c.at-end.result c.if-index-eq0.false c.requires c.at.ensures c.at-end.ensures
