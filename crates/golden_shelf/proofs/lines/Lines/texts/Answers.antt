use Rattle.std.proofs.Common.{ap, sym, map, ◌∙◌}
use Rattle.golden_shelf.specs.Lines.{KeyedLine}
use Rattle.golden_shelf.proofs.LineParts.{texts_lines}
use Rattle.golden_shelf.proofs.lines.Lines.texts.Goals as goal

pub returns : goal.returns
returns c = c.as_slice.ensures.value ∙ sym (texts_lines _ _ c.self.invariant.0) ∙ ap (λ s. map (λ (line : KeyedLine). line.1) s.lines) c.self.view_is
