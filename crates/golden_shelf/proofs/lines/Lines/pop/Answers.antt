use Rattle.std.proofs.Common.{ap, sym, ◌∙◌}
use Rattle.golden_shelf.proofs.LineParts.{popped}
use Rattle.golden_shelf.proofs.lines.Lines.pop.Goals as goal

pub returns-clause-line : goal.returns-clause-line
returns-clause-line c =
    sym (ap (λ s. s.lines) c.self.view_is)
    ∙ popped _ _ _ _ _ _ c.in_ok-key.ensures.items c.in_ok-texts.ensures.items c.self.invariant.0
