use Rattle.std.proofs.Common.{IfSome, ap, subst, ◌∙◌}
use Rattle.json.specs.Find.{InMembers}
use Rattle.json.specs.Json.{Members}
use Rattle.item_fields.specs.Items.{ready}
use Rattle.lei_records.specs.RuleNumbers.{rules_of}
use Rattle.upload_format.specs.Bodies.{raw_item}
use Rattle.upload_format.specs.Ordered.{AreFields}
use Rattle.upload_format.proofs.OrderedLemmas.{item_of}
use Rattle.upload_format.proofs.ordered.ready_value.Goals as goal

pub returns : goal.returns
returns c j begins =
    let found = c.in-Some.ensures j begins in
    let fields = c.in-Some-2.fields in
    let kind = c.args.value.now.kind in
    let are = subst (λ read. IfSome read (λ fields. (ms : Members) → InMembers c.in-Some.members ms → AreFields ms fields))
    c.in-Some-2.is c.in_ok-fields.ensures found.0 found.2 in
    (raw_item kind fields, item_of kind j found.0 fields found.1 are, c.in_ok-ready_by.ensures ∙ ap (ready (rules_of c.args.rules)) c.raw_item.ensures)
