use Rattle.std.proofs.Common.{sym, arith, length-take}
use Rattle.std.proofs.lemmas.List.{take_all}
use Rattle.http_heads.proofs.head.front_of.Goals as goal

pub returns-then-bytes-le-MAX_HEAD-clause-front : goal.returns-then-bytes-le-MAX_HEAD-clause-front
returns-then-bytes-le-MAX_HEAD-clause-front c = sym (take_all 8192 c.args.bytes.now (omega arith))

pub slice_bounds-result-end : goal.slice_bounds-result-end
slice_bounds-result-end c = omega (arith, length-take 8192 c.args.bytes.now)

pub returns-clause-few : goal.returns-clause-few
returns-clause-few c = omega (arith, length-take 8192 c.args.bytes.now)
