use Rattle.std.proofs.Common.{rules, subst, sym}
use Rattle.lei_code.specs.Code.{IsWellFormed}
use Rattle.register_demo.proofs.CodeTexts.{well-formed}
use Rattle.register_demo.proofs.codes.put_code.Goals as goal

pub check_of-requires : goal.check_of-requires
check_of-requires c = subst IsWellFormed (sym c.in_18_digits-text.ensures) (well-formed c.args.i (search rules))
