use Rattle.std.proofs.Common.{◌∷◌, ◌++◌, [], ap, ◌∙◌}
use Rattle.json.specs.Token.{key}
use Rattle.copy_forms.proofs.JsonSteps.{lead-made}
use Rattle.copy_forms.proofs.json_read.lead.Goals as goal

pub returns : goal.returns
returns c =
    let comma = c.key.ensures.room.0 ∙ c.new-out-2.ensures.before ∙ c.in_ok-push.ensures.items ∙ ap (λ l. l ++ 44 ∷ []) c.new-out.ensures.items in
    let tokens = c.in_ok-key.ensures.ok ∙ ap (λ t. t ++ key c.args.name.now ∷ []) c.new-out-2.ensures.tokens in
    c.from.ensures ∙ c.in_ok-push-2.ensures.items
    ∙ lead-made c.args.name.now c.into_inner-out.result.items c.key.new.self.tokens c.key.new.self.before comma tokens c.into_inner-out.ensures.items
