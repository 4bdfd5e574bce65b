use Rattle.std.proofs.Common.{◌∷◌, [], ap, length, length-append, arith}
use Rattle.golden_shelf.specs.Keys.{key_texts}
use Rattle.golden_shelf.proofs.LineParts.{length_past}
use Rattle.golden_shelf.proofs.weaving.exchange.Goals as goal

pub returns-in_default-clause-len : goal.returns-in_default-clause-len
returns-in_default-clause-len c =
    let p = length_past (key_texts c.args.note.now.key) c.args.rest.now.lines in
    let e = ap length c.pop_at-found.ensures.lines in
    omega (arith, p, e)

pub returns-in-Some-clause-len : goal.returns-in-Some-clause-len
returns-in-Some-clause-len c =
    let p = length_past (key_texts c.args.note.now.key) c.args.rest.now.lines in
    let e = ap length c.pop_at-found.ensures.lines in
    let one = ap length c.push_reserved.ensures.lines in
    let more = length-append c.args.rows.now.lines ((key_texts c.args.note.now.key, c.in-Some.texts) ∷ []) in
    omega (arith, p, e, one, more)
