use Rattle.std.proofs.Common.{ap, length, arith}
use Rattle.golden_shelf.proofs.LineParts.{length_lines}
use Rattle.golden_shelf.proofs.lines.Lines.reserve.Goals as goal

pub overflow_sub-total : goal.overflow_sub-total
overflow_sub-total c =
    let i = c.self.invariant in
    let l = length_lines _ _ i.0 in
    let v = ap (λ s. length s.lines) c.self.view_is in
    let r = c.requires in
    let n = c.len.ensures in
    omega (arith, i.0, l, v, r, n)

pub overflow_sub-total-2 : goal.overflow_sub-total-2
overflow_sub-total-2 c =
    let i = c.self.invariant in
    let l = length_lines _ _ i.0 in
    let v = ap (λ s. length s.lines) c.self.view_is in
    let r = c.requires in
    let n = c.len-2.ensures in
    omega (arith, i.0, l, v, r, n)
