use denote.Param.{param}
use denote.Param.Send.{sendable}
use Rattle.std.proofs.Crossing.{crosses}
use Rattle.std.proofs.rt.LibcRuntime.TheSendSync as runtime
use Rattle.leireg.proofs.Sent.{store_send}
use Rattle.leireg.proofs.serving.serve_desks.Goals as goal

pub serve-status-requires-send-K : goal.serve-status-requires-send-K
serve-status-requires-send-K g c κs within =
    let store = store_send (param 1 g.row.S) g.S.Store c.type_bounds.send-S in
    search (runtime.the_sync, crosses, sendable) depth 60 fits 100000
