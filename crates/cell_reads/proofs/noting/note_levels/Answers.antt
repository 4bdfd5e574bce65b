use Rattle.std.proofs.Common.{◌≡◌, ◌∙◌, List, OnOk, ap, map, subst}
use Rattle.lei_code.specs.Texts.{Lei}
use Rattle.lei_records.specs.Cells.{lei_in, successors_in}
use Rattle.lei_records.specs.declared.view.CellKey.{CellKey}
use Rattle.successor_rules.specs.Levels.{known_nexts, reachable}
use Rattle.cell_reads.specs.Needs.{next_successors}
use Rattle.cell_reads.specs.Notes.{NotesCells}
use Rattle.cell_reads.proofs.noting.note_levels.Goals as goal

pub returns : goal.returns
returns g c =
    let over = g.W.View.cells c.args.over.now in
    let item = c.args.item.now in
    let nexts = known_nexts (next_successors over) in
    let same : c.as_slice.result.now ≡ reachable nexts (lei_in item) (successors_in item) =
    c.as_slice.ensures ∙ (c.reach-found.ensures ∙ (ap (λ (own : Lei). reachable nexts own c.successors.result) c.lei.ensures.value ∙ ap (reachable nexts (lei_in item)) c.successors.ensures)) in
    let Notes : List Lei → Type 0 = λ leis. NotesCells (g.V.View.cells c.args.below.now) c.args.noted.now c.note_records.new.noted (map CellKey.Rec leis) in
    subst (λ leis. OnOk c.note_records.result (Notes leis)) same c.note_records.ensures
