use Rattle.std.proofs.Common.{rules, ◌≡◌, false}
use Rattle.leireg_serve.proofs.Lists.{grown}
use Rattle.office_tests.proofs.servers.desks_over.Goals as goal

pub loop-number-preserved : goal.loop-number-preserved
loop-number-preserved c = grown (λ desk. desk.door.out ≡ false) c.loop-number._number c.loop-number.desks.items c.push.new.self.items
    c.desk_of.result (search rules) c.desk_of.ensures c.loop-number.invariant
