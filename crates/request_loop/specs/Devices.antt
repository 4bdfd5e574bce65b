-- What a call does to a device that it was lent.
use Rattle.std.specs.Prelude.{◌≡◌, ℕ}
use Rattle.lei_outside.specs.Faults.{FailsLast}

-- If `fault` holds, a call of the device failed, and nothing was read or written after it. Otherwise its count of
-- faults is unchanged.
pub record FailsIf {D T : Type 0} (fault : Type 0) (told : D → T) (faults : D → ℕ) (before after : D) : Type 0 where
  pub last : fault → FailsLast told faults before after
  pub none : ¬ fault → faults after ≡ faults before
