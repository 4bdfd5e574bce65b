use Rattle.std.proofs.Common.{◌≢◌, rules}
use Rattle.lei_shapes.specs.declared.lists.RelationType.{RelationType}
use Rattle.lei_shapes.specs.Lists.{relation_type_text, relation_types}
use Rattle.lei_shapes.proofs.ListLemmas.{value_named-none}
use Rattle.lei_shapes.proofs.lists.RelationType.read.Goals as goal

pub returns-in_default-clause-value : goal.returns-in_default-clause-value
returns-in_default-clause-value c =
    let apart : (v : RelationType) → relation_type_text v ≢ c.args.text.now = search rules in
    value_named-none relation_type_text relation_types c.args.text.now apart
