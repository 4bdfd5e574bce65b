use Rattle.std.proofs.Common.{◌≡◌, ◌++◌, drop}
use Rattle.memory_devices.proofs.KeepingLemmas.{between}
use Rattle.memory_devices.proofs.keeper.SureKeeperKeeper.entries.Given as goal

-- what was copied, together with what is left to copy, is all that was requested
abbrev pub invariant-loop-entry : goal.invariant-loop-entry
invariant-loop-entry l = l.list.items ++ between l.after l.upto (drop l.entry-index l.entry-items) ≡ between l.after l.upto l.fn.self.entries
