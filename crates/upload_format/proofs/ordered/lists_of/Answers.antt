use Rattle.std.proofs.Common.{option_map, refl, subst}
use Rattle.json.specs.Find.{NextMember}
use Rattle.upload_format.specs.Ordered.{list_under}
use Rattle.upload_format.proofs.OrderedLemmas.{lists_begin, lists_end, lists_more, no_lists}
use Rattle.upload_format.proofs.ordered.lists_of.Goals as goal

pub loop-name-init : goal.loop-name-init
loop-name-init c ms at = lists_begin ms c.args.members _ (no_lists _ refl refl refl) at

pub loop-name-preserved : goal.loop-name-preserved
loop-name-preserved c ms at =
    let so = c.loop-name.invariant ms at in
    let next = c.in-Some.ensures.value so.rest so.at in
    let found = c.in_ok-items.ensures next.0 next.3 in
    let with = c.in_ok-lists.ensures in
    lists_more ms c.loop-name.members c.next.new.self c.in_ok-items.field-0 (list_under c.loop-name.lists) (list_under c.in_ok-lists.lists)
    c.in_ok-kind_of.field-0 c.in-Some.name.now found.0 next.0 next.1 so next.2 found.1 next.4 c.in_ok-kind_of.ensures found.2 with.first with.lists

pub returns : goal.returns
returns c ms at =
    let so = c.loop-name.invariant ms at in
    lists_end ms c.loop-name.members (list_under c.loop-name.lists) so
    (subst (λ next. NextMember c.loop-name.members (option_map (λ m. (m.0.now, m.1)) next) c.next.new.self) c.in_default.is c.next.ensures.value so.rest so.at)
