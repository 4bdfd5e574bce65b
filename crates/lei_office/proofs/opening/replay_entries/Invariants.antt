use Rattle.std.proofs.Common.{◌≡◌, ◌≤◌, ◌-◌}
use Rattle.std.specs.Prelude.{IfSome}
use Rattle.lei_keeper.specs.Keeping.{LeavesNoMore, TablesStay}
use Rattle.register_history.specs.Legal.{Legal}
use Rattle.lei_office.proofs.ReplayedPages.{Reached}
use Rattle.lei_office.proofs.opening.replay_entries.Given as goal

abbrev pub invariant-loop-after : goal.invariant-loop-after
invariant-loop-after g l =
    let tables = g.K.Keeper.tables in
    let leaves = g.K.Keeper.leaves in
    let faults = g.K.Keeper.faults in
    record {
      limits : l.register.limits ≡ l.fn.register.limits;
      legal : Legal l.register;
      within : l.after ≤ l.last;
      stays : TablesStay (tables l.fn.keeper) (tables l.keeper);
      crash : LeavesNoMore (leaves l.fn.keeper) (leaves l.keeper);
      faultless : faults l.keeper ≡ faults l.fn.keeper;
      reached : IfSome (tables l.keeper) (Reached l.last l.after l.register.history);
    }

abbrev pub decreases-loop-after : goal.decreases-loop-after
decreases-loop-after g l = l.last - l.after
