use Rattle.std.proofs.Common.{OnOk, Option, Some, subst, sym}
use Rattle.cell_reads.specs.Needs.{needs}
use Rattle.cell_reads.specs.Reads.{Listed}
use Rattle.register_judge.specs.Agreement.{NotesMore}
use Rattle.register_judge.specs.Overlays.{overlay_view}
use Rattle.register_judge.proofs.judging.note_item.Goals as goal

pub returns-in-Some : goal.returns-in-Some
returns-in-Some g c =
    let keys = needs c.args.rules (overlay_view g.V.View.cells c.args.overlay.now) c.args.item.now in
    let Notes : Option Listed → Type 0 = λ old. OnOk c.note_needs.result (NotesMore old (Some c.note_needs.new.noted) (g.V.View.cells c.args.view.now) keys) in
    subst Notes (sym c.in-Some.is) c.note_needs.ensures
