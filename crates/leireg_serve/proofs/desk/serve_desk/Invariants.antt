use Rattle.std.specs.Prelude.{◌≡◌, false}
use Rattle.leireg_serve.specs.Desks.{line_tells, stage}
use Rattle.leireg_serve.proofs.Lines.{Serving}
use Rattle.leireg_serve.proofs.desk.serve_desk.Given as goal

abbrev pub invariant-loop : goal.invariant-loop
invariant-loop g l =
    (goal.iterator-loop g).can_next l.iterator' × (goal.iterator-loop g).is_finite l.iterator'
    × (g.D.Door.out l.desk.door ≡ false)
    × (g.D.Door.faults l.desk.door ≡ g.D.Door.faults l.initial.desk.door)
    × Serving (line_tells g.D.Line.Link.left g.D.Line.Link.written g.D.Line.Link.read_faults g.D.Line.Link.write_faults)
    (stage l.initial.caller (g.C.Clock.given l.initial.desk.clock))
    (g.D.Door.to_come l.initial.desk.door) (g.D.Door.came_back l.initial.desk.door)
    (stage l.caller (g.C.Clock.given l.desk.clock)) (g.D.Door.to_come l.desk.door) (g.D.Door.came_back l.desk.door)
