use Rattle.std.proofs.Common.{◌-◌, ◌≤◌}
use Rattle.fetched_cells.specs.Filling.{member_keys}
use Rattle.fetched_cells.proofs.FillLemmas.{Goes}
use Rattle.fetched_cells.proofs.filling.Filling.add_walk.Given as goal

-- the cells of the members from this one on are left to add
abbrev pub invariant-loop : goal.invariant-loop
invariant-loop g l =
    let cell = g.C.Chain.cell l.chain in
    let answers = g.C.Chain.answers l.chain in
    record {
      goes : Goes (g.V.View.cells l.view) l.fn.self l.self (member_keys (200 - l.counter) cell answers l.member) (member_keys 200 cell answers l.first);
      few : l.counter ≤ 200;
    }
