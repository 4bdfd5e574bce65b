use Rattle.std.proofs.Common.{◌-◌, ◌≤◌}
use Rattle.lei_mirror.specs.States.{AreTables}
use Rattle.lei_mirror.proofs.SettlingLemmas.{GoesOn}
use Rattle.lei_mirror.proofs.settling.settle.Given as goal

-- whatever settles the mirror with the current tables settles it with the first ones
abbrev pub invariant-loop-number : goal.invariant-loop-number
invariant-loop-number l = record {
  goes : GoesOn l.tables l.kept l.now;
  tables : AreTables l.now;
  rises : l.tables.publication ≤ l.now.publication;
}

abbrev pub decreases-loop-number : goal.decreases-loop-number
decreases-loop-number l = 1_000_000 - l.now.publication
