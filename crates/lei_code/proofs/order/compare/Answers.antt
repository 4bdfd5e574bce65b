use Rattle.std.proofs.Common.{◌∙◌}
use Rattle.std.specs.Ordering.{nat_cmp}
use Rattle.lei_code.proofs.Orders.{front_decides, back_decides}
use Rattle.lei_code.proofs.order.compare.Goals as goal

pub returns-in-Equal : goal.returns-in-Equal
returns-in-Equal c =
    back_decides c.args.text.now c.args.other.now c.back.result c.back-in-Equal.result _ c.told-text c.told-other (λ k _. c.fits-text k) (λ k _. c.fits-other k)
    (c.in-Equal.ensures ∙ (λ i. nat_cmp (c.front.ensures i) (c.front-2.ensures i))) c.back.ensures c.back-in-Equal.ensures c.cmp-in-Equal.ensures

pub returns-in_default : goal.returns-in_default
returns-in_default c =
    front_decides c.args.text.now c.args.other.now c.front.result c.front-2.result c.cmp.result c.told-text c.told-other (λ k _. c.fits-text k) (λ k _. c.fits-other k)
    c.front.ensures c.front-2.ensures c.cmp.ensures c.in_default.not-Equal
