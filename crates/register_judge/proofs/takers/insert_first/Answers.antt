use Rattle.std.proofs.Common.{Some, None, ap, cond, ◌∙◌}
use Rattle.std.specs.Str.{bytes_eq}
use Rattle.register_judge.proofs.MapLemmas.{id_at-empty, ids_at-update, long_taker_at-insert}
use Rattle.register_judge.proofs.takers.insert_first.Goals as goal

pub returns-in-Ok : goal.returns-in-Ok
returns-in-Ok c =
    long_taker_at-insert c.args.long.now c.insert.new.self None c.insert_id.new.ids c.args.authority.now c.args.id.now c.args.lei c.requires
    (λ i. c.in_ok-insert_id.ensures i ∙ ap (cond (bytes_eq c.args.id.now i) (Some c.args.lei)) (id_at-empty c.new-ids.result c.new-ids.ensures.empty i))
    (ids_at-update c.args.long.now c.insert.new.self c.args.authority.now (Some c.insert_id.new.ids) c.in-Ok.ensures.updates)
