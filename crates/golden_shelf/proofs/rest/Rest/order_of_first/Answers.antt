use Rattle.std.proofs.Common.{ap, Some, ◌∙◌}
use Rattle.golden_shelf.specs.Keys.{key_texts}
use Rattle.golden_shelf.proofs.LineParts.{first_of}
use Rattle.golden_shelf.proofs.rest.Rest.order_of_first.Goals as goal

pub returns-in-Some : goal.returns-in-Some
returns-in-Some c =
    ap Some c.compare.ensures
    ∙ first_of (key_texts c.args.key.now) c.self.inside.back.lines c.args.self.now.lines (Some (key_texts c.in-Some.first.now)) (ap (λ s. s.lines) c.self.view_is) c.in-Some.ensures

pub returns-in-None : goal.returns-in-None
returns-in-None c = first_of (key_texts c.args.key.now) c.self.inside.back.lines c.args.self.now.lines _ (ap (λ s. s.lines) c.self.view_is) c.in-None.ensures
