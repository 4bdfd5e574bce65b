use Rattle.std.proofs.Common.{arith}
use Rattle.golden_shelf.proofs.SideLemmas.{more_room}
use Rattle.golden_shelf.proofs.side.Side.make_room.Goals as goal

pub invariant_of-self-2 : goal.invariant_of-self-2
invariant_of-self-2 c =
    more_room _ _ _ _ _ c.in_ok-reserve.ensures.lines c.reserve-2.ensures.lines c.reserve-2.ensures.stays
    (c.reserve-2.ensures.most _ (let a = c.self.invariant.rooms in let b = c.in_ok-reserve.ensures.stays in omega (arith, a, b)) c.in_ok-reserve.ensures.room) c.self.invariant
