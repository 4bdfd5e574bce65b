use Rattle.std.proofs.Common.{◌≡◌, rules, subst}
use Rattle.std.proofs.lemmas.Result.{on_ok_weaker}
use Rattle.cell_reads.specs.Needs.{named_cells, walk_cells}
use Rattle.cell_reads.specs.Notes.{NotesCells}
use Rattle.cell_reads.proofs.NoteLemmas.{notes-then}
use Rattle.cell_reads.proofs.noting.note_needs.Goals as goal

pub returns : goal.returns
returns g c =
    let cells = g.V.View.cells c.args.below.now in
    let item = c.args.item.now in
    let are : c.push_names.new.keys.items ≡ named_cells item = search rules in
    on_ok_weaker c.note_walk_of.result
    (notes-then cells c.args.noted.now c.note_all.new.noted c.note_walk_of.new.noted (named_cells item) (walk_cells c.args.rules (g.W.View.cells c.args.over.now) item)
    (subst (NotesCells cells c.args.noted.now c.note_all.new.noted) are c.in_ok-note_all.ensures)) c.note_walk_of.ensures
