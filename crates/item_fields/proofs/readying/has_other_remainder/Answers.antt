use Rattle.std.proofs.Common.{sym, ◌∙◌}
use Rattle.item_fields.proofs.Codes.{remainder_told}
use Rattle.item_fields.proofs.readying.has_other_remainder.Goals as goal

pub returns-then-is_code : goal.returns-then-is_code
returns-then-is_code c =
    c.is_err.ensures.value ∙ remainder_told c.read.result c.args.text.now (sym c.is_code.ensures ∙ c.if-is_code.true) c.read.ensures.valid.0 c.read.ensures.valid.1
