use Rattle.std.proofs.Common.{[], ◌∷◌, ◌++◌, sym, ap, subst, ◌∙◌}
use Rattle.std.specs.List.Sorted.{IsStrictlySortedBy}
use Rattle.name_search.specs.Keys.{text_cmp}
use Rattle.name_search.proofs.RisingLemmas.{one_rises}
use Rattle.name_search.proofs.rising.RisingKeys.of_one.Goals as goal

pub invariant_of-result : goal.invariant_of-result
invariant_of-result c =
    let is = c.push_reserved.ensures.items ∙ ap (λ keys. keys ++ c.in_ok-share.field-0 ∷ []) c.in_ok-keys.ensures.items in
    subst (IsStrictlySortedBy text_cmp) (sym is) (one_rises c.in_ok-share.field-0)
