use Rattle.std.proofs.Common.{ap, subst, sym, ◌∙◌}
use Rattle.std.specs.Str.{IsUtf8, bytes_eq}
use Rattle.copy_forms.specs.JsonReading.{printed_moment}
use Rattle.copy_forms.proofs.JsonHeads.{moment-no_text, moment-some}
use Rattle.copy_forms.proofs.json_heads.printed_moment.Goals as goal

pub returns-in_default : goal.returns-in_default
returns-in_default c = sym (moment-no_text c.args.text.now c.in_default.ensures.cases.0)

pub returns-then-eq : goal.returns-then-eq
returns-then-eq c =
    let text = c.in-Ok.text.now in
    let utf8 = subst IsUtf8 (sym c.in-Ok.ensures.cases.0) c.in-Ok.ensures.cases.1 in
    let same = ap (bytes_eq c.as_slice.result.now) (sym c.as_bytes.ensures.value) ∙ sym c.if-eq.ensures in
    sym (ap printed_moment (sym c.in-Ok.ensures.cases.0)
    ∙ moment-some text c.as_slice.result.now c.in_ok-moment.moment utf8 c.in_ok-moment.ensures.value (c.as_slice.ensures ∙ c.text.ensures.bytes) same)
