use Rattle.std.proofs.Common.{◌≡◌, IfSome, Some, map, option_and_then, option_map, subst, sym}
use Rattle.item_fields.specs.Items.{ready}
use Rattle.lei_records.specs.RuleNumbers.{rules_of}
use Rattle.upload_format.specs.Bodies.{BodyGives, upload_items, value_of}
use Rattle.upload_format.proofs.Ready.{ready-counted}
use Rattle.upload_format.proofs.reading.Reader.read_ready.Goals as goal

pub returns-in-Some : goal.returns-in-Some
returns-in-Some g c =
    let rules = rules_of c.args.rules in
    let body = c.args.body.now in
    let is = subst (λ read. IfSome read (λ items. option_map (map (ready rules)) (option_and_then upload_items (value_of body)) ≡ Some items.items))
    c.in-Some.is c.in_ok-items.ensures in
    subst (BodyGives (λ items. items.items) c.countable.result) (sym (ready-counted rules body c.in-Some.items.items is)) c.countable.ensures
