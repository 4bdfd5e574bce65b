use Rattle.std.proofs.Common.{refl, subst}
use Rattle.json.specs.Find.{NextItem}
use Rattle.upload_format.proofs.OrderedLemmas.{values_begin, values_end, values_more}
use Rattle.upload_format.proofs.ordered.push_items.Goals as goal

pub loop-value-init : goal.loop-value-init
loop-value-init c = values_begin c.args.kind c.args.items c.args.values.items

pub loop-value-preserved : goal.loop-value-preserved
loop-value-preserved c =
    rw c.in_ok-push.ensures.items
    (values_more c.args.kind c.args.items c.loop-value.items c.next.new.self c.args.values.items c.loop-value.values.items _ refl c.in-Some.ensures.value c.loop-value.invariant)

pub returns : goal.returns
returns c =
    values_end c.args.kind c.args.items c.loop-value.items c.next.new.self c.args.values.items c.loop-value.values.items
    (subst (λ next. NextItem c.loop-value.items next c.next.new.self) c.in_default.is c.next.ensures.value) c.loop-value.invariant
