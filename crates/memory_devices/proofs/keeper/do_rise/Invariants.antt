use Rattle.std.proofs.Common.{◌↔◌, drop}
use Rattle.lei_values.specs.KeptTables.{RiseFrom}
use Rattle.memory_devices.proofs.keeper.do_rise.Given as goal

abbrev pub invariant-loop-entry : goal.invariant-loop-entry
invariant-loop-entry l = RiseFrom l.number (drop l.entry-index l.entries) ↔ RiseFrom 0 l.entries
