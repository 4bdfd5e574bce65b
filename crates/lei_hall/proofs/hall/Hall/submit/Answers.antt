use Rattle.std.proofs.Common.{ap}
use Rattle.register_words.specs.declared.request.Request.TheVariants.{Upload}
use Rattle.lei_hall.proofs.Looking.{turn_later}
use Rattle.lei_hall.proofs.Turning.{turned_by}
use Rattle.lei_hall.proofs.hall.Hall.submit.Goals as goal

pub returns : goal.returns
returns g c =
    let turn = c.enter-pass.ensures.turn in
    let met = turn.2.met in
    turn_later _ _ _ _ _ _ c.plan-pass.ensures.sees
    (turned_by g.K.Keeper.tables g.K.Keeper.faults _ _ turn.0 turn.1 _ _ _ _ _ _ _ turn.2.shows turn.2.leaves (ap Upload met.0.0) met.0.1 met.1.1 turn.3)
