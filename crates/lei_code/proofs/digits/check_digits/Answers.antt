use Rattle.std.proofs.Common.{arith}
use Rattle.lei_code.proofs.Made.{IsValid-made, made_digits}
use Rattle.lei_code.proofs.digits.check_digits.Goals as goal

pub returns-clause-valid : goal.returns-clause-valid
returns-clause-valid c =
    IsValid-made c.args.text.now _ c.told-text c.in_ok-check.ensures.well_formed (grind (arith, made_digits))
