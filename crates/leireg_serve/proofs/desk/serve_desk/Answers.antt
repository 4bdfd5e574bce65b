use Rattle.std.proofs.Common.{ℕ, refl, ◌∙◌, subst}
use Rattle.lei_values.specs.Count.{Rose}
use Rattle.leireg_serve.proofs.Lines.{desk_begins, desk_closed, desk_failed, desk_goes}
use Rattle.leireg_serve.proofs.desk.serve_desk.Goals as goal

pub loop-init : goal.loop-init
loop-init g c = (tt, tt, c.requires.door, refl, desk_begins _ _ _ _)

pub loop-preserved : goal.loop-preserved
loop-preserved g c =
    let before = c.loop.invariant in
    let came = c.in-Line.ensures in
    let served = c.serve_line.ensures.served in (
      tt,
      tt,
      c.serve_line.ensures.out,
      c.serve_line.ensures.kept ∙ came.kept (λ fails. fails) ∙ before.3,
      desk_goes _ _ _ _ _ _ _ _ _ _ _ _ _ served.0 _ before.4 came.lines came.back c.serve_line.ensures.to_come served.1 served.2,
    )

pub returns-in-Closed : goal.returns-in-Closed
returns-in-Closed g c =
    let before = c.loop.invariant in
    let came = c.in-Closed.ensures in
    desk_closed _ _ _ _ _ _ _ _ before.4 c.into_pass.ensures refl came.lines came.back came.out (came.kept (λ fails. fails) ∙ before.3)

pub returns-in-Failed : goal.returns-in-Failed
returns-in-Failed g c =
    let before = c.loop.invariant in
    let came = c.in-Failed.ensures in
    desk_failed _ _ _ _ _ _ _ _ before.4 c.into_pass-in-Failed.ensures refl came.lines came.back came.out
    (subst (λ (n : ℕ). Rose n (g.D.Door.faults c.next-in-loop.new.self)) before.3 (came.failed tt))
