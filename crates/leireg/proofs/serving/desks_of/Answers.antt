use Rattle.std.proofs.Common.{rules, ◌≡◌, false}
use Rattle.leireg_serve.proofs.Lists.{grown}
use Rattle.leireg.proofs.serving.desks_of.Goals as goal

pub loop-number-preserved : goal.loop-number-preserved
loop-number-preserved c = grown (λ desk. desk.door.out ≡ false) c.loop-number.number c.loop-number.desks.items c.push.new.self.items
    (record { door = c.new-door.result; clock = c.new.result }) (search rules) c.new-door.ensures.out c.loop-number.invariant
