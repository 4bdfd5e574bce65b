use Rattle.std.proofs.Common.{sym, ◌∙◌}
use Rattle.golden_shelf.proofs.ExchangeSteps.{there_told}
use Rattle.golden_shelf.proofs.replacing.is_there.Goals as goal

pub returns-then-is_some : goal.returns-then-is_some
returns-then-is_some c =
    c.is_some-then-is_some.ensures
    ∙ there_told c.args.rows.now.lines c.args.note.now c.place.result c.requires (sym c.is_some.ensures ∙ c.if-is_some.true) c.place.ensures
