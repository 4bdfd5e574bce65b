use Rattle.std.proofs.Common.{refl, sym, arith}
use Rattle.std.proofs.lemmas.Bool.{false≢true}
use Rattle.register_words.proofs.Numbers.{number_within-decimal, number_within-not_parsed, number_within-other}
use Rattle.register_words.proofs.words.number_in.Goals as goal
use Rattle.register_words.proofs.words.number_in.Goals.{else-low-number-via-then-low-number+then-number-high+else-is_decimal, else-low-number-via-then-low-number+else-number-high, else-low-number-via-else-low-number}

pub returns-in_default-clause-value : goal.returns-in_default-clause-value
returns-in_default-clause-value c = sym
    (number_within-not_parsed c.args.low c.args.high c.args.text.now (omega arith) c.in_default.ensures.value.0)

pub returns-then-is_decimal-clause-value : goal.returns-then-is_decimal-clause-value
returns-then-is_decimal-clause-value c = sym
    (number_within-decimal c.args.low c.args.high c.args.text.now c.in-Ok.number c.if-low-number.true c.if-number-high.true (omega arith)
    (c.if-is_decimal.ensures.0 refl))

pub returns-else-low-number-clause-value : goal.returns-else-low-number-clause-value
returns-else-low-number-clause-value c =
    sym (number_within-other c.args.low c.args.high c.args.text.now c.in-Ok.number (omega arith) c.in-Ok.ensures.value.0
    (λ above below is.
    elim c.else-low-number.branch [
      | else-low-number-via-then-low-number+then-number-high+else-is_decimal w ↦ false≢true
          (w.if-is_decimal.ensures.1 is)
      | else-low-number-via-then-low-number+else-number-high w ↦ omega arith
      | else-low-number-via-else-low-number w ↦ omega arith
    ]))
