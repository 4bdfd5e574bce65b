use Rattle.std.proofs.Common.{◌≡◌, drop}
use Rattle.fetched_cells.proofs.NearestLemmas.{with_unmet}
use Rattle.fetched_cells.proofs.nearest.add_unmet.Given as goal

-- after the LEIs from this one on are added, the level has all of them
abbrev pub invariant-loop-lei : goal.invariant-loop-lei
invariant-loop-lei l = with_unmet l.met l.level.keys (drop l.lei-index l.leis) ≡ with_unmet l.met l.fn.level.keys l.leis
