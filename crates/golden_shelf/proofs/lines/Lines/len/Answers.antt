use Rattle.std.proofs.Common.{ap, length, arith}
use Rattle.golden_shelf.proofs.LineParts.{length_lines}
use Rattle.golden_shelf.proofs.lines.Lines.len.Goals as goal

pub returns : goal.returns
returns c =
    let i = c.self.invariant in
    let l = length_lines _ _ i.0 in
    let v = ap (λ s. length s.lines) c.self.view_is in
    let n = c.len.ensures in
    omega (arith, l, v, n)
