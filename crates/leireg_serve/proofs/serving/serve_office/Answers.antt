use Rattle.std.proofs.Common.{◌≡◌, length, All, false, inr, sym, ap, ◌∙◌, subst, arith}
use Rattle.std.proofs.lemmas.List.{length-map}
use Rattle.std.proofs.lemmas.Slice.Zip.{AllZip-long}
use Rattle.turnstile.specs.Passes.{HaveAll}
use Rattle.lei_hall.specs.Passes.{numbers_of}
use Rattle.leireg_serve.specs.Desks.{desk_state, line_tells}
use Rattle.leireg_serve.specs.Workers.{Works}
use Rattle.leireg_serve.specs.declared.desk.Desk.{Desk}
use Rattle.leireg_serve.proofs.Opened.{closes_office}
use Rattle.leireg_serve.proofs.Served.{close_passes, passes_back, ready_all}
use Rattle.leireg_serve.proofs.serving.serve_office.Goals as goal

pub serve_all-workers-requires-after_bounds : goal.serve_all-workers-requires-after_bounds
serve_all-workers-requires-after_bounds g c κs within =
    let made = c.make_workers-workers.ensures in
    let doors = subst (All (λ (desk : Desk g.row.D.Denot g.row.C.Denot). g.D.Door.out desk.door ≡ false)) (sym made.desks) c.requires.doors in
    ready_all g.D.Door.out c.in-Ok.hall.table c.args.supplies.router.now c.make_workers-workers.result.items c.in-Ok.passes.items
    c.requires.room.0 made.router doors made.passes c.in-Ok.ensures.all.0

pub take_apart-desks-requires-clause-passes : goal.take_apart-desks-requires-clause-passes
take_apart-desks-requires-clause-passes g c =
    let tells = line_tells g.D.Line.Link.left g.D.Line.Link.written g.D.Line.Link.read_faults g.D.Line.Link.write_faults in
    let state = desk_state g.D.Door.to_come g.D.Door.came_back g.D.Door.out g.D.Door.faults g.C.Clock.given in
    passes_back tells state c.make_workers-workers.result.items c.serve_all-workers.result.items c.serve_all-workers.ensures

pub take_apart-desks-requires-clause-room : goal.take_apart-desks-requires-clause-room
take_apart-desks-requires-clause-room g c =
    let tells = line_tells g.D.Line.Link.left g.D.Line.Link.written g.D.Line.Link.read_faults g.D.Line.Link.write_faults in
    let state = desk_state g.D.Door.to_come g.D.Door.came_back g.D.Door.out g.D.Door.faults g.C.Clock.given in
    let olds = c.make_workers-workers.result.items in
    let news = c.serve_all-workers.result.items in
    let worked = AllZip-long (Works tells state) olds news c.serve_all-workers.ensures in
    let made = sym (length-map olds (λ worker. worker.desk)) ∙ ap length c.make_workers-workers.ensures.desks in
    let desks = c.requires.room.4 in
    let passes = c.requires.room.6 in
    (omega (arith, worked, made, desks), omega (arith, worked, made, passes))

pub close-requires-clause-passes : goal.close-requires-clause-passes
close-requires-clause-passes g c =
    let tells = line_tells g.D.Line.Link.left g.D.Line.Link.written g.D.Line.Link.read_faults g.D.Line.Link.write_faults in
    let state = desk_state g.D.Door.to_come g.D.Door.came_back g.D.Door.out g.D.Door.faults g.C.Clock.given in
    let office = c.args.office in
    let stays = numbers_of office.office.limits (g.K.Keeper.tables office.keeper) in
    (close_passes tells state c.in-Ok.hall.table office.office.history stays c.len.result c.make_workers-workers.result.items
    c.serve_all-workers.result.items c.in-Ok.passes.items c.take_apart-desks.result.1.items c.in-Ok.ensures.passes
    c.make_workers-workers.ensures.passes c.serve_all-workers.ensures c.take_apart-desks.ensures.passes c.in-Ok.ensures.all).0

pub close-requires-clause-all : goal.close-requires-clause-all
close-requires-clause-all g c =
    let tells = line_tells g.D.Line.Link.left g.D.Line.Link.written g.D.Line.Link.read_faults g.D.Line.Link.write_faults in
    let state = desk_state g.D.Door.to_come g.D.Door.came_back g.D.Door.out g.D.Door.faults g.C.Clock.given in
    let office = c.args.office in
    let stays = numbers_of office.office.limits (g.K.Keeper.tables office.keeper) in
    let back = c.take_apart-desks.result.1.items in
    let passes = close_passes tells state c.in-Ok.hall.table office.office.history stays c.len.result c.make_workers-workers.result.items
    c.serve_all-workers.result.items c.in-Ok.passes.items back c.in-Ok.ensures.passes
    c.make_workers-workers.ensures.passes c.serve_all-workers.ensures c.take_apart-desks.ensures.passes c.in-Ok.ensures.all in
    subst (λ n. HaveAll n back) (sym c.in-Ok.ensures.number) passes.1

pub returns-in-Ok : goal.returns-in-Ok
returns-in-Ok g c =
    let tells = line_tells g.D.Line.Link.left g.D.Line.Link.written g.D.Line.Link.read_faults g.D.Line.Link.write_faults in
    let state = desk_state g.D.Door.to_come g.D.Door.came_back g.D.Door.out g.D.Door.faults g.C.Clock.given in
    let made = c.make_workers-workers.ensures in
    let taken = c.take_apart-desks.ensures in
    inr (closes_office g.K.Keeper.tables g.K.Keeper.faults tells state c.in-Ok.hall c.args.office c.close.result c.args.desks.items _
    c.make_workers-workers.result.items c.serve_all-workers.result.items c.in-Ok.passes.items c.take_apart-desks.result.1.items _ _ _
    c.in-Ok.ensures.office c.in-Ok.ensures.passes made.desks made.passes c.serve_all-workers.ensures taken.desks taken.passes taken.end
    c.close.ensures.closes c.close.ensures.kept c.close.ensures.untold c.close-keeper.ensures.keeper c.status_of.ensures)
