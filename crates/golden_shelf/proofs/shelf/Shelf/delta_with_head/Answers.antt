use Rattle.std.proofs.Common.{ap, map, ◌∙◌}
use Rattle.golden_shelf.proofs.DeltaLemmas.{found_behind}
use Rattle.golden_shelf.proofs.Publishing.{if_ok}
use Rattle.golden_shelf.proofs.shelf.Shelf.delta_with_head.Goals as goal

pub returns : goal.returns
returns c =
    if_ok c.delta_text.result _ _ c.delta_text.ensures
    (λ bytes says changes good are. says changes
    (found_behind c.args.sheet c.self.inside.issues.items c.self.inside.sides c.args.self.now.now c.args.head.now.from _ c.as_slice.result.now
    c.in_ok-keys.keys.items c.as_slice-2.result.now _ _
    (ap (λ s. s.now) c.self.view_is) c.as_slice.ensures.value c.as_slice-2.ensures.value c.in_ok-keys.ensures.keys c.of-side.ensures c.in_ok-changes.ensures
    (ap (map _) c.as_slice-3.ensures.value)
    ∙ are)
    good)
