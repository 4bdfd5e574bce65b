use Rattle.std.proofs.Common.{◌≢◌, rules}
use Rattle.lei_shapes.specs.declared.lists.Validation.{Validation}
use Rattle.lei_shapes.specs.Lists.{validation_text, validations}
use Rattle.lei_shapes.proofs.ListLemmas.{value_named-none}
use Rattle.lei_shapes.proofs.lists.Validation.read.Goals as goal

pub returns-in_default-clause-value : goal.returns-in_default-clause-value
returns-in_default-clause-value c =
    let apart : (v : Validation) → validation_text v ≢ c.args.text.now = search rules in
    value_named-none validation_text validations c.args.text.now apart
