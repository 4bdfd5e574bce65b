use Rattle.std.proofs.Common.{subst}
use Rattle.register_words.specs.declared.sheets.Form.{Form}
use Rattle.copy_forms.specs.Files.{IsCopy}
use Rattle.copy_forms.proofs.copies.read_copy.Goals as goal

pub returns-in-Json-clause-only : goal.returns-in-Json-clause-only
returns-in-Json-clause-only c = λ err head wide rows is.
    c.read_copy_in_json.ensures.only err head wide rows
    (subst (λ (f : Form). IsCopy c.args.bytes.now c.args.sheet f head wide rows) c.in-Json.is is)
