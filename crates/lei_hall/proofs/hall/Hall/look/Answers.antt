use Rattle.lei_hall.proofs.Looking.{looked_by}
use Rattle.lei_hall.proofs.hall.Hall.look.Goals as goal

pub returns : goal.returns
returns g c =
    let turn = c.enter-pass.ensures.turn in
    let met = turn.2.met in
    looked_by g.K.Keeper.tables g.K.Keeper.faults _ _ turn.0 turn.1 _ _ _ _ turn.2.shows turn.2.leaves met.0 met.1.0 met.1.1 turn.3
