use Rattle.std.proofs.Common.{◌≢◌, rules}
use Rattle.lei_shapes.specs.declared.lists.Reason.{Reason}
use Rattle.lei_shapes.specs.Lists.{reason_text, reasons}
use Rattle.lei_shapes.proofs.ListLemmas.{value_named-none}
use Rattle.lei_shapes.proofs.lists.Reason.read.Goals as goal

pub returns-in_default-clause-value : goal.returns-in_default-clause-value
returns-in_default-clause-value c =
    let apart : (v : Reason) → reason_text v ≢ c.args.text.now = search rules in
    value_named-none reason_text reasons c.args.text.now apart
