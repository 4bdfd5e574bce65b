use Rattle.std.proofs.lemmas.Result.{on_ok_weaker}
use Rattle.cell_reads.proofs.NoteLemmas.{notes-added}
use Rattle.cell_reads.proofs.noting.note.Goals as goal

pub returns-in-Some : goal.returns-in-Some
returns-in-Some g c =
    on_ok_weaker c.push.result
    (λ is. notes-added (g.V.View.cells c.args.view.now) c.args.noted.now c.push.new.self c.args.key c.in-Some.found is c.in-Some.ensures) c.push.ensures
