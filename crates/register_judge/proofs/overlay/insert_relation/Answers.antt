use Rattle.std.proofs.Common.{ap, ◌∙◌}
use Rattle.lei_shapes.specs.Lists.{relation_type_text}
use Rattle.register_judge.proofs.MapLemmas.{relation_at-insert}
use Rattle.register_judge.proofs.overlay.insert_relation.Goals as goal

pub returns-in-Ok : goal.returns-in-Ok
returns-in-Ok c = relation_at-insert c.args.relations.now c.insert.new.self (c.start.result, c.text.result, c.end.result) c.args.item
    c.start.ensures.value (c.text.ensures ∙ ap relation_type_text c.kind.ensures) c.end.ensures c.in-Ok.ensures.updates
