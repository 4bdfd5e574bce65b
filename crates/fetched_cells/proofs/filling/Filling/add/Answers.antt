use Rattle.std.proofs.Common.{arith, refl}
use Rattle.fetched_cells.proofs.FillLemmas.{adds_one}
use Rattle.fetched_cells.proofs.filling.Filling.add.Goals as goal

pub returns : goal.returns
returns g c =
    adds_one (g.V.View.cells c.args.view.now) c.args.self.now _ c.args.key.now (omega arith) refl c.in_ok-copy_cell.ensures.copied
