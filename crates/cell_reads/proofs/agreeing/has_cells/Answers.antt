use Rattle.std.proofs.Common.{rules, subst, IsTrue}
use Rattle.std.proofs.lemmas.List.Elements.{All-more}
use Rattle.cell_reads.proofs.AgreeLemmas.{HasRead, all-taken}
use Rattle.cell_reads.proofs.agreeing.has_cells.Goals as goal

pub loop-read-preserved : goal.loop-read-preserved
loop-read-preserved g c =
    let cells = g.V.View.cells c.args.view.now in
    let has : IsTrue c.has_cell.result = search rules in
    All-more (HasRead cells) c.args.reads.now c.loop-read.read-index c.read-item.result c.loop-read-test.true c.loop-read.invariant
    (subst (HasRead cells) c.read-item.is (c.has_cell.ensures.0 has))

pub returns : goal.returns
returns g c =
    (λ _. all-taken (HasRead (g.V.View.cells c.args.view.now)) c.args.reads.now c.loop-read.read-index c.loop-read-test.false c.loop-read.invariant, λ _. search rules)
