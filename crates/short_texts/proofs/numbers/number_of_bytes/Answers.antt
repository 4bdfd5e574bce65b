use Rattle.std.proofs.Common.{◌<◌, length, rules, arith}
use Rattle.short_texts.proofs.NumberLemmas.{room_left}
use Rattle.short_texts.proofs.numbers.number_of_bytes.Goals as goal

pub overflow_mul-number : goal.overflow_mul-number
overflow_mul-number c =
    let within : c.loop-byte.byte-index < length c.args.bytes.now = search rules in
    let room = room_left c.loop-byte.number c.loop-byte.byte-index (length c.args.bytes.now) c.loop-byte.invariant.below within c.loop-byte.invariant.short in
    omega arith

pub overflow_add-number : goal.overflow_add-number
overflow_add-number c =
    let within : c.loop-byte.byte-index < length c.args.bytes.now = search rules in
    let room = room_left c.loop-byte.number c.loop-byte.byte-index (length c.args.bytes.now) c.loop-byte.invariant.below within c.loop-byte.invariant.short in
    let small : c.from.result < 256 = search rules in
    omega arith
