use Rattle.std.proofs.Common.{drop}
use Rattle.fetched_cells.specs.Fetching.{fetched_keys}
use Rattle.fetched_cells.proofs.FillLemmas.{Goes}
use Rattle.fetched_cells.proofs.filling.Filling.add_all.Given as goal

-- the cells that are fetched for the keys from this one on are left to add
abbrev pub invariant-loop-key : goal.invariant-loop-key
invariant-loop-key g l =
    let cells = g.V.View.cells l.view in
    Goes cells l.fn.self l.self (fetched_keys cells (drop l.key-index l.keys)) (fetched_keys cells l.keys)
