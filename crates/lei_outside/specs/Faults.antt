-- What is told about a call of a device that fails.
use Rattle.std.specs.Prelude.{◌≡◌, ◌≤◌, ℕ, List, codes}
use Rattle.lei_values.specs.Count.{Rose}
use Rattle.lei_outside.specs.declared.faults.SinkFault.{SinkFault}
use Rattle.lei_outside.specs.declared.faults.SinkFault.TheVariants.{Failed, NoMemory}

-- A call of a device failed, and nothing was read or written after it. At some time no call had failed, and the device
-- told what it tells now. After that time its count of faults rose.
-- A body that is generic in the device is bound by this, since it can change the device by calls alone. A body that knows
-- the device's type is not: any value of the type may stand for `last`, whether the device ever had it or not.
pub record FailsLast {D T : Type 0} (told : D → T) (faults : D → ℕ) (before after : D) : Type 0 where
  pub last : D
  pub faultless : faults last ≡ faults before
  pub unchanged : told last ≡ told after
  pub counts : faults last ≤ faults after
  pub rose : Rose (faults last) (faults after)

-- why a sink took nothing, in words
abbrev pub sink_fault_text : SinkFault → List ℕ
sink_fault_text Failed = codes "the device failed"
sink_fault_text NoMemory = codes "out of memory"
