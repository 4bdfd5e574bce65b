use Rattle.std.specs.Prelude.{◌&&◌, Some, cond, not}
use Rattle.std.specs.Str.{bytes_eq}
use Rattle.std.proofs.Common.{ap, ◌∙◌}
use Rattle.lei_shapes.specs.Lists.{exception_category_text}
use Rattle.lei_records.specs.Exceptions.{exception_category_in, subject_in, is_same_category}
use Rattle.register_judge.specs.Overlays.{exception_put_at}
use Rattle.register_judge.proofs.MapLemmas.{pair_at-insert}
use Rattle.register_judge.proofs.overlay.insert_exception.Goals as goal

pub returns-in-Ok : goal.returns-in-Ok
returns-in-Ok c = λ lei category.
    let row = c.args.item.now.0 in
    pair_at-insert c.args.standing.now c.insert.new.self (c.lei.result, c.text.result) (subject_in row) (exception_category_text (exception_category_in row))
    (not c.withdraws.result) c.lei.ensures.value (c.text.ensures ∙ ap exception_category_text c.category.ensures) c.in-Ok.ensures.updates
    lei (exception_category_text category)
    ∙ ap (λ w. cond (bytes_eq (subject_in row) lei && is_same_category (exception_category_in row) category) (Some (not w)) (exception_put_at c.args.standing.now lei category))
    c.withdraws.ensures
