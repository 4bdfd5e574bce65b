use Rattle.std.proofs.Common.{◌+◌, ◌∷◌, ◌∙◌, Some, None, ap, sym, take}
use Rattle.std.proofs.lemmas.List.{take_rest}
use Rattle.lei_shapes.specs.Shape.{between_spaces}
use Rattle.lei_shapes.proofs.CodeLemmas.{cut_at}
use Rattle.lei_shapes.proofs.codes.cut_at_space.Goals as goal

pub returns-in-Some-clause-texts : goal.returns-in-Some-clause-texts
returns-in-Some-clause-texts c =
    let text = c.args.text.now in
    cut_at text (Some c.in-Some.at) (sym c.in-Some.is ∙ c.first_space.ensures)
    ∙ ap (λ rest. take c.in-Some.at text ∷ between_spaces rest) (sym (take_rest text (c.in-Some.at + 1)))

pub returns-in-None-clause-texts : goal.returns-in-None-clause-texts
returns-in-None-clause-texts c = cut_at c.args.text.now None (sym c.in-None.is ∙ c.first_space.ensures)
