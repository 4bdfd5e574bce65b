use Rattle.std.proofs.Common.{◌≡◌, ◌++◌, ◌∷◌, ◌∙◌, ap, sym}
use Rattle.lei_shapes.specs.Shape.{between_spaces, texts_at_hand}
use Rattle.lei_records.proofs.SuccessorTexts.{next_valid}
use Rattle.lei_records.proofs.texts.codes_in.Goals as goal

pub of_valid-requires : goal.of_valid-requires
of_valid-requires c =
    let codes = c.loop-left.codes in
    let code = c.cut_at_space.result.0.now in
    let is : codes ++ code ∷ texts_at_hand c.cut_at_space.result.1 ≡ between_spaces c.args.text.now =
    ap (λ texts. codes ++ texts) (sym c.cut_at_space.ensures.texts) ∙ (ap (λ left. codes ++ texts_at_hand left) (sym c.in-Some.is) ∙ c.loop-left.invariant) in
    next_valid c.args.text.now code codes (texts_at_hand c.cut_at_space.result.1) c.requires is
