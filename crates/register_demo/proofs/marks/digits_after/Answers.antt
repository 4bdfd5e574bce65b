use Rattle.std.proofs.Common.{arith, rules}
use Rattle.std.specs.Char.{is_ascii_digit}
use Rattle.register_demo.proofs.Marked.{one-more}
use Rattle.register_demo.proofs.marks.digits_after.Goals as goal

pub loop-end-preserved : goal.loop-end-preserved
loop-end-preserved c =
    (omega arith, one-more is_ascii_digit c.text_after-rest.result.now c.loop-end.end c.loop-end-test.true (search rules) c.loop-end.invariant.1)
