use Rattle.std.proofs.Common.{◌∙◌, ◌++◌, ◌∷◌, [], ap, subst, sym}
use Rattle.item_fields.specs.Names.{NamesRise}
use Rattle.item_fields.proofs.PairLemmas.{paired_grow, pairs_grow}
use Rattle.item_fields.proofs.item.Fields.with.Goals as goal

pub invariant_of-result : goal.invariant_of-result
invariant_of-result c =
    paired_grow c.self.inside.texts c.push.new.self c.push-2.new.self c.args.name.now c.args.text.now c.self.invariant
    c.in_ok-push.ensures.ok c.in_ok-push-2.ensures.ok
    (subst (λ pairs. NamesRise (pairs ++ (c.args.name.now, c.args.text.now) ∷ [])) (sym c.self.view_is) c.requires)

pub returns : goal.returns
returns c =
    pairs_grow c.self.inside.texts c.push.new.self c.push-2.new.self c.args.name.now c.args.text.now c.self.invariant
    c.in_ok-push.ensures.ok c.in_ok-push-2.ensures.ok
    ∙ ap (λ pairs. pairs ++ (c.args.name.now, c.args.text.now) ∷ []) c.self.view_is
