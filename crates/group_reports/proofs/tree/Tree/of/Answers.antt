use Rattle.std.proofs.Common.{rules, arith, ◌≡◌, ◌+◌, ◌-◌, ◌<◌, ◌∙◌, length, slice_set, subst, sym, None, Some}
use Rattle.std.proofs.lemmas.List.{get_or_read}
use Rattle.group_reports.specs.Places.{IsBelow, step_up}
use Rattle.group_reports.proofs.ChildLemmas.{LinkedFrom, linked_on}
use Rattle.group_reports.proofs.tree.Tree.of.Goals as goal

pub loop-child-preserved-in-Some : goal.loop-child-preserved-in-Some
loop-child-preserved-in-Some c =
    let parents = c.args.parents.items in
    let child = c.loop-child.child - 1 in
    let parent = c.in-Some.parent in
    let within : child < length parents = search rules in
    let is : step_up parents child ≡ Some parent = sym (get_or_read parents child c.index.result.now within c.index.ensures None) ∙ c.in-Some.is in
    let inside : parent < length parents = subst (IsBelow (length parents)) is (c.requires child) in
    let inner : parent < length c.loop-child.firsts.items = omega (arith, inside, c.loop-child.invariant.linked.first_count) in
    let read : c.index-in-Some.result.now ≡ step_up c.loop-child.firsts.items parent = get_or_read c.loop-child.firsts.items parent c.index-in-Some.result.now inner c.index-in-Some.ensures None in
    let next : c.loop-child.child ≡ child + 1 = omega arith in
    record {
      few = omega arith;
      linked =
          subst (λ o. LinkedFrom parents child (slice_set c.loop-child.firsts.items parent (Some child)) (slice_set c.loop-child.nexts.items child o))
          (sym read)
          (linked_on parents child parent c.loop-child.firsts.items c.loop-child.nexts.items within inside is
          (subst (λ k. LinkedFrom parents k c.loop-child.firsts.items c.loop-child.nexts.items) next c.loop-child.invariant.linked));
    }
