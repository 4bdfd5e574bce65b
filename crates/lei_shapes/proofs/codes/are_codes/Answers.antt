use Rattle.std.proofs.Common.{◌≤◌, ◌∙◌, arith, sym}
use Rattle.lei_shapes.proofs.CodeLemmas.{too_many}
use Rattle.lei_shapes.proofs.codes.are_codes.Goals as goal

pub returns : goal.returns
returns c =
    let many : 5 ≤ c.loop.counter = omega arith in
    sym (too_many c.loop.left.now c.loop.counter many) ∙ c.loop.invariant.rest
