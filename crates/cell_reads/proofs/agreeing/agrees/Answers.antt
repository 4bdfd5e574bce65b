use Rattle.std.proofs.Common.{sym, subst}
use Rattle.std.specs.List.{All}
use Rattle.cell_reads.proofs.AgreeLemmas.{HasRead, all-answered, answers-all}
use Rattle.cell_reads.proofs.agreeing.agrees.Goals as goal

pub returns : goal.returns
returns g c =
    let cells = g.V.View.cells c.args.view.now in (
      λ all. answers-all cells c.args.reads.now (subst (All (HasRead cells)) c.as_slice.ensures (c.has_cells.ensures.0 all)),
      λ answers. c.has_cells.ensures.1 (subst (All (HasRead cells)) (sym c.as_slice.ensures) (all-answered cells c.args.reads.now answers)),
    )
