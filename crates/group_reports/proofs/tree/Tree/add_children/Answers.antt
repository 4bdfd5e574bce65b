use Rattle.std.proofs.Common.{rules, arith, ◌≡◌, ◌+◌, ◌-◌, ◌<◌, ◌≤◌, ◌∙◌, length, subst, sym, None}
use Rattle.std.proofs.lemmas.List.{get_or_read}
use Rattle.group_reports.specs.Places.{FindsChildren, step_up}
use Rattle.group_reports.proofs.ChildLemmas.{AddsFrom, adds_child, adds_end, adds_on, at-is, fewer_left, still}
use Rattle.group_reports.proofs.tree.Tree.add_children.Goals as goal

pub index-left-requires-in-Some : goal.index-left-requires-in-Some
index-left-requires-in-Some c =
    let whole : c.self.inside.parents.items ≡ c.args.self.now = search rules in
    let adds = subst (λ o. AddsFrom c.args.self.now c.args.parent c.args.root o c.args.children.now.keys c.loop-left.children.keys) c.in-Some.is c.loop-left.invariant in
    let at = adds_child c.args.self.now c.args.parent c.args.root c.in-Some.child c.args.children.now.keys c.loop-left.children.keys adds in
    let low : adds.from ≤ c.in-Some.child = at.low in
    let high : c.in-Some.child < adds.from + (length c.args.self.now - adds.from) = at.high in
    let finds = subst (λ l. FindsChildren l c.self.inside.firsts.items c.self.inside.nexts.items) whole c.self.invariant.1 in
    let count : length c.self.inside.nexts.items ≡ length c.args.self.now = finds.next_count in
    let within : c.in-Some.child < length c.self.inside.nexts.items = omega (arith, low, high, count) in
    search rules

pub loop-left-smaller : goal.loop-left-smaller
loop-left-smaller c =
    let whole : c.self.inside.parents.items ≡ c.args.self.now = search rules in
    let adds = subst (λ o. AddsFrom c.args.self.now c.args.parent c.args.root o c.args.children.now.keys c.loop-left.children.keys) c.in-Some.is c.loop-left.invariant in
    let at = adds_child c.args.self.now c.args.parent c.args.root c.in-Some.child c.args.children.now.keys c.loop-left.children.keys adds in
    let low : adds.from ≤ c.in-Some.child = at.low in
    let high : c.in-Some.child < adds.from + (length c.args.self.now - adds.from) = at.high in
    let finds = subst (λ l. FindsChildren l c.self.inside.firsts.items c.self.inside.nexts.items) whole c.self.invariant.1 in
    let count : length c.self.inside.nexts.items ≡ length c.args.self.now = finds.next_count in
    let within : c.in-Some.child < length c.self.inside.nexts.items = omega (arith, low, high, count) in
    let read = get_or_read c.self.inside.nexts.items c.in-Some.child c.index-left-in-Some.result.now within c.index-left-in-Some.ensures None in
    subst (λ o. still c.args.self.now c.index-left-in-Some.result.now < still c.args.self.now o) (sym c.in-Some.is)
    (fewer_left c.args.self.now c.args.parent c.in-Some.child c.index-left-in-Some.result.now (omega (arith, low, high))
    (read ∙ finds.next c.args.parent c.in-Some.child (at-is c.args.parent (step_up c.args.self.now c.in-Some.child) at.passes)))

pub loop-left-preserved : goal.loop-left-preserved
loop-left-preserved c =
    let whole : c.self.inside.parents.items ≡ c.args.self.now = search rules in
    let adds = subst (λ o. AddsFrom c.args.self.now c.args.parent c.args.root o c.args.children.now.keys c.loop-left.children.keys) c.in-Some.is c.loop-left.invariant in
    let at = adds_child c.args.self.now c.args.parent c.args.root c.in-Some.child c.args.children.now.keys c.loop-left.children.keys adds in
    let low : adds.from ≤ c.in-Some.child = at.low in
    let high : c.in-Some.child < adds.from + (length c.args.self.now - adds.from) = at.high in
    let finds = subst (λ l. FindsChildren l c.self.inside.firsts.items c.self.inside.nexts.items) whole c.self.invariant.1 in
    let count : length c.self.inside.nexts.items ≡ length c.args.self.now = finds.next_count in
    let within : c.in-Some.child < length c.self.inside.nexts.items = omega (arith, low, high, count) in
    let read = get_or_read c.self.inside.nexts.items c.in-Some.child c.index-left-in-Some.result.now within c.index-left-in-Some.ensures None in
    adds_on c.args.self.now c.args.parent c.args.root c.in-Some.child c.index-left-in-Some.result.now c.args.children.now.keys
    c.loop-left.children.keys c.add_other.new.places.keys c.self.inside.firsts.items c.self.inside.nexts.items finds adds read
    c.in_ok-add_other.ensures.has (c.in_ok-add_other.ensures.below (length c.args.self.now) (omega (arith, low, high)) adds.below)

pub returns-clause-has : goal.returns-clause-has
returns-clause-has c =
    let none : c.loop-left.left ≡ None = search rules in
    adds_end c.args.self.now c.args.parent c.args.root c.args.children.now.keys c.loop-left.children.keys
    (subst (λ o. AddsFrom c.args.self.now c.args.parent c.args.root o c.args.children.now.keys c.loop-left.children.keys) none c.loop-left.invariant)
