use Rattle.std.proofs.Common.{◌∷◌, ◌++◌, [], ap, sym, ◌∙◌}
use Rattle.std.proofs.lemmas.Str.{is_utf8-from_IsUtf8}
use Rattle.copy_forms.proofs.JsonSteps.{not-utf8, utf8_text-some}
use Rattle.copy_forms.proofs.json_read.put_text.Goals as goal

pub returns-in_ok-push-in-Ok : goal.returns-in_ok-push-in-Ok
returns-in_ok-push-in-Ok c = (
  c.args.text.now,
  utf8_text-some c.args.text.now (sym c.if-is_empty.ensures) (is_utf8-from_IsUtf8 c.args.text.now c.in-Ok.ensures.cases.1),
  record { is = c.in_ok-push-in-Ok.ensures.pushed ∙ ap (λ text. c.args.texts.now ++ text ∷ []) c.in-Ok.ensures.cases.0 },
)

pub returns-in-Err : goal.returns-in-Err
returns-in-Err c = not-utf8 c.args.text.now (sym c.if-is_empty.ensures) c.in-Err.ensures.cases.0
