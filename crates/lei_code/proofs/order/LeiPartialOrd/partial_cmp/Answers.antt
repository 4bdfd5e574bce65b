use Rattle.std.proofs.Common.{ap, sym, refl, ◌∙◌, Some}
use Rattle.std.specs.Cmp.Lexicographic.{lists_agrees}
use Rattle.std.specs.Ordering.{nat_cmp}
use Rattle.lei_code.proofs.order.LeiPartialOrd.partial_cmp.Goals as goal

pub returns : goal.returns
returns c = ap Some c.cmp.ensures ∙ sym (lists_agrees {R = nat_cmp} (λ x y. refl) c.args.self.now c.args.other.now)
