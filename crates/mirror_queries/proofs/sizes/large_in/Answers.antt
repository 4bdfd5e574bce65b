use Rattle.std.proofs.Common.{refl, sym, arith}
use Rattle.std.proofs.lemmas.Bool.{false≢true}
use Rattle.mirror_queries.proofs.Large.{large-decimal, large-not_parsed, large-other}
use Rattle.mirror_queries.proofs.sizes.large_in.Goals as goal
use Rattle.mirror_queries.proofs.sizes.large_in.Goals.{else-size-via-then-size+then-size-le-MAX_SKIPPED+else-is_decimal, else-size-via-then-size+else-size-le-MAX_SKIPPED, else-size-via-else-size}

pub returns-in_default : goal.returns-in_default
returns-in_default c = sym (large-not_parsed c.args.text.now c.in_default.ensures.value.0)

pub returns-then-is_decimal : goal.returns-then-is_decimal
returns-then-is_decimal c = sym
    (large-decimal c.args.text.now c.in-Ok.size c.if-size.true c.if-size-le-MAX_SKIPPED.true
    (c.if-is_decimal.ensures.0 refl))

pub returns-else-size : goal.returns-else-size
returns-else-size c =
    sym (large-other c.args.text.now c.in-Ok.size c.in-Ok.ensures.value.0
    (λ above below is.
    elim c.else-size.branch [
      | else-size-via-then-size+then-size-le-MAX_SKIPPED+else-is_decimal w ↦ false≢true (w.if-is_decimal.ensures.1 is)
      | else-size-via-then-size+else-size-le-MAX_SKIPPED w ↦ omega arith
      | else-size-via-else-size w ↦ omega arith
    ]))
