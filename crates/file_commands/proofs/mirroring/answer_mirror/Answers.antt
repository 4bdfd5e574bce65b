use Rattle.std.proofs.Common.{ap}
use Rattle.file_commands.specs.Sides.{sides}
use Rattle.line_reading.specs.Status.{end_status}
use Rattle.file_commands.proofs.Mirrored.{mirrored}
use Rattle.file_commands.proofs.mirroring.answer_mirror.Goals as goal

pub returns-clause-answers : goal.returns-clause-answers
returns-clause-answers g c =
    let left = g.S.Source.left in
    let written = g.W.Sink.written in
    let wire = c.serve_mirror.new.link in
    mirrored (sides (left c.args.wire.now.input.now) (written c.args.wire.now.out.now))
    (sides (left wire.input.now) (written wire.out.now)) (end_status c.ended_as.result) c.args.server.now
    c.serve_mirror.new.server c.serve_mirror.result (ap end_status c.ended_as.ensures) c.requires.empty
    c.serve_mirror.ensures.serves
