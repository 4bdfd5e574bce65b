use Rattle.std.specs.Prelude.{◌≡◌, Some, true, ◌&&◌, cond}
use Rattle.std.proofs.Common.{ap, sym, rules, ◌∙◌}
use Rattle.lei_shapes.specs.Lists.{relation_type_text}
use Rattle.lei_records.specs.Relations.{end_in, is_active, kind_in, start_in}
use Rattle.relation_rules.specs.Checks.{is_from}
use Rattle.register_judge.specs.Overlays.{end_at}
use Rattle.register_judge.proofs.MapLemmas.{pair_at-insert}
use Rattle.register_judge.proofs.overlay.put_end.Goals as goal

pub returns-in-Ok : goal.returns-in-Ok
returns-in-Ok c = λ start kind.
    let row = c.args.item.now in
    let active : is_active row ≡ true = search rules in
    pair_at-insert c.args.ends.now c.insert.new.self (c.start.result, c.text.result) (start_in row) (relation_type_text (kind_in row)) (end_in row)
    c.start.ensures.value (c.text.ensures ∙ ap relation_type_text c.kind.ensures) (search rules) start (relation_type_text kind)
    ∙ sym (ap (λ a. cond (a && is_from start kind row) (Some (end_in row)) (end_at c.args.ends.now start kind)) active)
