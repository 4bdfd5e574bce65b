use Rattle.std.proofs.Common.{arith, sym, ◌∙◌}
use Rattle.copy_forms.proofs.JsonHeads.{no_number, no_text, other_number, this_number}
use Rattle.copy_forms.proofs.json_heads.number_of.Goals as goal

pub returns-in-Err : goal.returns-in-Err
returns-in-Err c = sym (no_text c.args.digits.now c.in-Err.ensures.cases.0)

pub returns-in_default : goal.returns-in_default
returns-in_default c =
    sym (no_number c.args.digits.now c.in-Ok.digits.now c.parse-number.result c.in_default.field-0 c.in-Ok.ensures.cases.0 c.parse-number.ensures.value.0 c.in_default.is)

pub returns-then-eq : goal.returns-then-eq
returns-then-eq c =
    sym (this_number c.args.digits.now c.as_bytes.result.now c.in-Ok-number.number (omega arith) (c.as_bytes.ensures.value ∙ c.format.ensures.text) (sym c.if-eq.ensures))

pub returns-else-eq : goal.returns-else-eq
returns-else-eq c =
    sym (other_number c.args.digits.now c.in-Ok.digits.now c.as_bytes.result.now c.parse-number.result c.in-Ok-number.number c.in-Ok.ensures.cases.0
    c.parse-number.ensures.value.0 c.in-Ok-number.is (c.as_bytes.ensures.value ∙ c.format.ensures.text) (sym c.if-eq.ensures))
