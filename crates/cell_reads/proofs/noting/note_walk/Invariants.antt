use Rattle.std.proofs.Common.{◌≤◌, ◌-◌}
use Rattle.cell_reads.proofs.NoteLemmas.{GoesOn}
use Rattle.cell_reads.proofs.noting.note_walk.Given as goal

-- noting the rest of the walk, from this member on, completes the noting of the whole walk
abbrev pub invariant-loop : goal.invariant-loop
invariant-loop g l = record {
  goes_on : GoesOn (g.V.View.cells l.below) l.fn.noted l.noted (200 - l.counter) (g.C.Chain.answers l.chain) (g.C.Chain.cell l.chain) l.member l.fn.first;
  few : l.counter ≤ 200;
}
