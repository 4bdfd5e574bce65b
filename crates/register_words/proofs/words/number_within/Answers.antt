use Rattle.std.proofs.Common.{sym, arith}
use Rattle.register_words.proofs.Numbers.{number_within-no_text}
use Rattle.register_words.proofs.words.number_within.Goals as goal

pub returns-in-Err-clause-value : goal.returns-in-Err-clause-value
returns-in-Err-clause-value c = sym
    (number_within-no_text c.args.low c.args.high c.args.word.now (omega arith) c.in-Err.ensures.cases.0)
