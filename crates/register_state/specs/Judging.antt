-- How the outcome of judging an upload's items matches what the items do to the table.
use Rattle.std.specs.Prelude.{◌≡◌}
use Rattle.register_judge.specs.Taking.{Taken}
use Rattle.register_judge.specs.declared.outcome.Outcome.{Outcome}

-- the same verdicts, and the same writes of the accepted items
pub record ShowsTaken (outcome : Outcome) (taken : Taken) : Type 0 where
  pub verdicts : outcome.verdicts ≡ taken.verdicts
  pub writes : outcome.writes ≡ taken.writes
