use denote.Param.{param}
use denote.Param.Send.{sendable}
use Rattle.std.proofs.Crossing.{crosses}
use Rattle.atomic_table.proofs.shared.Shared.TheSendSync as shared
use Rattle.atomic_table.proofs.send_lease.SendLease.TheSendSync as lease
use Rattle.lei_hall.proofs.Sent.{slot_send}
use Rattle.office_tests.proofs.ahead.submit_at_once.Goals as goal

pub for_each_mut-requires-sync-F : goal.for_each_mut-requires-sync-F
for_each_mut-requires-sync-F g c κs within =
    let slot = slot_send (param 0 g.row.K) g.K.Keeper c.type_bounds.send-K in
    let runtime = c.type_bounds.sync-R in
    let gate = c.type_bounds.sync-G in
    search (shared.the_sync, lease.the_sync, crosses, sendable) depth 60 fits 100000
