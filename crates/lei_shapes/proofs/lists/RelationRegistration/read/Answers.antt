use Rattle.std.proofs.Common.{◌≢◌, rules}
use Rattle.lei_shapes.specs.declared.lists.RelationRegistration.{RelationRegistration}
use Rattle.lei_shapes.specs.Lists.{relation_registration_text, relation_registrations}
use Rattle.lei_shapes.proofs.ListLemmas.{value_named-none}
use Rattle.lei_shapes.proofs.lists.RelationRegistration.read.Goals as goal

pub returns-in_default-clause-value : goal.returns-in_default-clause-value
returns-in_default-clause-value c =
    let apart : (v : RelationRegistration) → relation_registration_text v ≢ c.args.text.now = search rules in
    value_named-none relation_registration_text relation_registrations c.args.text.now apart
