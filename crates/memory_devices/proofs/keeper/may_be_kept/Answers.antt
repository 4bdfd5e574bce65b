use Rattle.std.proofs.Common.{rules}
use Rattle.lei_values.specs.KeptTables.{RiseFrom}
use Rattle.memory_devices.proofs.KeepingLemmas.{may-kept}
use Rattle.memory_devices.proofs.keeper.may_be_kept.Goals as goal

pub returns-then-do_rise-clause-kept : goal.returns-then-do_rise-clause-kept
returns-then-do_rise-clause-kept c = λ are.
    let rise : RiseFrom 0 c.args.entries.now = search rules in
    may-kept c.args.entries.now c.args.cells.now (rise, c.are_of_entries.ensures.0 are)
