use Rattle.std.proofs.Common.{◌≢◌, rules}
use Rattle.lei_shapes.specs.declared.lists.EventType.{EventType}
use Rattle.lei_shapes.specs.Lists.{event_type_text, event_types}
use Rattle.lei_shapes.proofs.ListLemmas.{value_named-none}
use Rattle.lei_shapes.proofs.lists.EventType.read.Goals as goal

pub returns-in_default-clause-value : goal.returns-in_default-clause-value
returns-in_default-clause-value c =
    let apart : (v : EventType) → event_type_text v ≢ c.args.text.now = search rules in
    value_named-none event_type_text event_types c.args.text.now apart
