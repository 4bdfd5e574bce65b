use Rattle.std.proofs.Common.{rules, arith}
use Rattle.std.proofs.lemmas.Fmt.{length-decimal-le}
use Rattle.register_demo.proofs.CodeTexts.{filled}
use Rattle.register_demo.proofs.codes.in_18_digits.Goals as goal

pub write_digits-requires : goal.write_digits-requires
write_digits-requires c = (search (rules, length-decimal-le 18), omega arith)

pub returns : goal.returns
returns c = filled c.args.i c.write_digits.result c.write_digits.new.buf (search rules) (search rules) (search rules)
