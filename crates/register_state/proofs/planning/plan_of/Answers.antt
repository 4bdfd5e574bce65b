use Rattle.register_state.proofs.Planned.{few_items}
use Rattle.register_state.proofs.planning.plan_of.Goals as goal

pub judge_all-requires : goal.judge_all-requires
judge_all-requires g c = few_items c.args.call.now c.args.items.now c.requires
