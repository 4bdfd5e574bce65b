use Rattle.std.proofs.Common.{◌∙◌, ◌||◌, false, rules}
use Rattle.std.specs.Char.{is_control}
use Rattle.std.proofs.lemmas.Iterator.{YieldsList-from_slice}
use Rattle.std.proofs.lemmas.Iterator.Consumers.{fold_from_yields_List}
use Rattle.lei_shapes.proofs.ShapeLemmas.{fold_any}
use Rattle.lei_shapes.proofs.shapes.has_control_byte.Goals as goal

pub returns : goal.returns
returns c =
    fold_from_yields_List _ (λ found byte. found || is_control byte) false _ c.fold.ensures.ran (YieldsList-from_slice c.args.text.now c.iter.ensures.rest) (λ a x b q k. search rules)
    ∙ fold_any is_control false c.args.text.now
