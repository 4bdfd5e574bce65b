use Rattle.std.specs.Prelude.{Some}
use Rattle.register_judge.proofs.MapLemmas.{id_at-update}
use Rattle.register_judge.proofs.takers.insert_id.Goals as goal

pub returns-in-Ok : goal.returns-in-Ok
returns-in-Ok c = id_at-update c.args.ids.now c.insert.new.self c.args.id.now (Some c.args.lei) c.in-Ok.ensures.updates
