use Rattle.std.proofs.Common.{ap, length, map, ◌-◌, ◌∙◌}
use Rattle.std.specs.List.{slice_get}
use Rattle.golden_shelf.specs.Lines.{KeyedLine}
use Rattle.golden_shelf.proofs.LineParts.{last_key}
use Rattle.golden_shelf.proofs.lines.Lines.last_key.Goals as goal

pub returns : goal.returns
returns c =
    last_key _ _ c.last.result c.self.invariant.0 (c.last.ensures.value ∙ ap (λ l. slice_get l (length l - 1)) c.as_slice.ensures.value)
    ∙ ap (λ s. slice_get (map (λ (line : KeyedLine). line.0) s.lines) (length s.lines - 1)) c.self.view_is
