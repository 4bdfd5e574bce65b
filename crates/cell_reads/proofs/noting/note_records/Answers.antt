use Rattle.std.proofs.Common.{◌+◌, ◌++◌, ◌∷◌, ◌≡◌, ◌∙◌, [], ap, map, subst, sym, take}
use Rattle.std.proofs.lemmas.List.{map-append, take_more}
use Rattle.lei_records.specs.declared.view.CellKey.{CellKey}
use Rattle.cell_reads.specs.Notes.{NotesCells}
use Rattle.cell_reads.proofs.NoteLemmas.{notes-then}
use Rattle.cell_reads.proofs.noting.note_records.Goals as goal

pub loop-lei-preserved : goal.loop-lei-preserved
loop-lei-preserved g c =
    let cells = g.V.View.cells c.args.view.now in
    let leis = c.args.leis.now in
    let index = c.loop-lei.lei-index in
    let lei = c.lei-item.result in
    let taken : take (index + 1) leis ≡ take index leis ++ lei ∷ [] =
    take_more leis index lei c.loop-lei-test.true ∙ ap (λ l. take index leis ++ l ∷ []) (sym c.lei-item.is) in
    subst (NotesCells cells c.args.noted.now c.note.new.noted)
    (sym (ap (map CellKey.Rec) taken ∙ map-append CellKey.Rec (take index leis) (lei ∷ [])))
    (notes-then cells c.args.noted.now c.loop-lei.noted c.note.new.noted (map CellKey.Rec (take index leis)) (CellKey.Rec lei ∷ [])
    c.loop-lei.invariant c.in_ok-note.ensures)
