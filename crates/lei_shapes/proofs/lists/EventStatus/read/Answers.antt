use Rattle.std.proofs.Common.{◌≢◌, rules}
use Rattle.lei_shapes.specs.declared.lists.EventStatus.{EventStatus}
use Rattle.lei_shapes.specs.Lists.{event_status_text, event_statuses}
use Rattle.lei_shapes.proofs.ListLemmas.{value_named-none}
use Rattle.lei_shapes.proofs.lists.EventStatus.read.Goals as goal

pub returns-in_default-clause-value : goal.returns-in_default-clause-value
returns-in_default-clause-value c =
    let apart : (v : EventStatus) → event_status_text v ≢ c.args.text.now = search rules in
    value_named-none event_status_text event_statuses c.args.text.now apart
