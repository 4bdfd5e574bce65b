use Rattle.std.proofs.Common.{◌∷◌, []}
use Rattle.cell_reads.proofs.NoteLemmas.{notes-then}
use Rattle.cell_reads.proofs.noting.note_all.Goals as goal

pub loop-key-preserved : goal.loop-key-preserved
loop-key-preserved g c =
    notes-then (g.V.View.cells c.args.view.now) c.args.noted.now c.loop-key.noted c.note.new.noted c.loop-key.yielded (c.in-Some.key ∷ [])
    c.loop-key.invariant c.in_ok-note.ensures
