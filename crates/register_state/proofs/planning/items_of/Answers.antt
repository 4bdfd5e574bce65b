use Rattle.register_state.proofs.Planned.{items_read}
use Rattle.register_state.proofs.planning.items_of.Goals as goal

pub returns : goal.returns
returns g c = items_read c.args.call.now c.read_ready.result c.ok.result c.as_slice.result.now c.as_slice.ensures c.read_ready.ensures c.ok.ensures.value
