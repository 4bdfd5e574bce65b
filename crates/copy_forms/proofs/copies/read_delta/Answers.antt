use Rattle.std.proofs.Common.{subst}
use Rattle.register_words.specs.declared.sheets.Form.{Form}
use Rattle.copy_forms.specs.Files.{IsDelta}
use Rattle.copy_forms.proofs.copies.read_delta.Goals as goal

pub returns-in-Json-clause-only : goal.returns-in-Json-clause-only
returns-in-Json-clause-only c = λ err head wide changes is.
    c.read_delta_in_json.ensures.only err head wide changes
    (subst (λ (f : Form). IsDelta c.args.bytes.now c.args.sheet f head wide changes) c.in-Json.is is)
