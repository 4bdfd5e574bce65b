use Rattle.std.proofs.Common.{arith, ◌∙◌}
use Rattle.std.specs.Ordering.{nat_cmp}
use Rattle.name_search.proofs.HeadLemmas.{heads_decide}
use Rattle.name_search.proofs.word.compare.Goals as goal

pub returns-in_default : goal.returns-in_default
returns-in_default c =
    heads_decide c.args.text.now c.args.other.now c.cmp.result (λ k _. omega (arith, c.type_inv.text k)) (λ k _. omega (arith, c.type_inv.other k))
    (c.cmp.ensures ∙ (λ i. nat_cmp (c.requires.head i) (c.requires.other_head i))) c.in_default.not-Equal
