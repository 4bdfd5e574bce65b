use Rattle.std.proofs.lemmas.Result.{on_ok_weaker}
use Rattle.cell_reads.specs.Needs.{parent_walk}
use Rattle.fetched_cells.specs.Fetching.{nearest_records}
use Rattle.fetched_cells.proofs.FillLemmas.{adds_then}
use Rattle.fetched_cells.proofs.filling.Filling.add_walks.Goals as goal

pub returns : goal.returns
returns g c =
    let whole = g.V.View.cells c.args.view.now in
    on_ok_weaker c.add_parents.result
    (adds_then whole c.args.self.now c.add_successors.new.self c.add_parents.new.self
    (nearest_records whole c.args.lei.now) (parent_walk whole c.args.lei.now) c.in_ok-add_successors.ensures)
    c.add_parents.ensures
