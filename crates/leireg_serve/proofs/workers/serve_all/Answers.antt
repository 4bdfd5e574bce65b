use Rattle.leireg_serve.specs.Desks.{desk_state, line_tells}
use Rattle.leireg_serve.specs.Workers.{Works}
use Rattle.leireg_serve.proofs.Lists.{zip_lent}
use Rattle.leireg_serve.proofs.workers.serve_all.Goals as goal

pub returns : goal.returns
returns g c =
    let tells = line_tells g.D.Line.Link.left g.D.Line.Link.written g.D.Line.Link.read_faults g.D.Line.Link.write_faults in
    let state = desk_state g.D.Door.to_come g.D.Door.came_back g.D.Door.out g.D.Door.faults g.C.Clock.given in
    zip_lent (Works tells state) _ _ _ _ c.deref_mut.ensures.value c.deref_mut.ensures.len c.serve_each.ensures.count c.serve_each.ensures.each
