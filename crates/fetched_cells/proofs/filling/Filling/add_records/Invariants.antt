use Rattle.std.proofs.Common.{drop, map}
use Rattle.lei_records.specs.declared.view.CellKey.{CellKey}
use Rattle.fetched_cells.proofs.FillLemmas.{Goes}
use Rattle.fetched_cells.proofs.filling.Filling.add_records.Given as goal

-- the records from this one on are left to add
abbrev pub invariant-loop-lei : goal.invariant-loop-lei
invariant-loop-lei g l =
    Goes (g.V.View.cells l.view) l.fn.self l.self (map CellKey.Rec (drop l.lei-index l.leis)) (map CellKey.Rec l.leis)
