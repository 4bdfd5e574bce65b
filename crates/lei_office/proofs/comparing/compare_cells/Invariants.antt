use Rattle.std.proofs.Common.{◌≡◌}
use Rattle.std.specs.Prelude.{IfSome}
use Rattle.lei_keeper.specs.Keeping.{LeavesNoMore, TablesStay}
use Rattle.register_history.specs.Register.{held_after}
use Rattle.register_history.proofs.Pages.{PagesAgree}
use Rattle.lei_office.proofs.comparing.compare_cells.Given as goal

abbrev pub invariant-loop-page : goal.invariant-loop-page
invariant-loop-page g l =
    let tables = g.K.Keeper.tables in
    let leaves = g.K.Keeper.leaves in
    let faults = g.K.Keeper.faults in
    record {
      stays : TablesStay (tables l.fn.keeper) (tables l.keeper);
      crash : LeavesNoMore (leaves l.fn.keeper) (leaves l.keeper);
      faultless : faults l.keeper ≡ faults l.fn.keeper;
      agree : IfSome (tables l.keeper) (λ told. PagesAgree l.last (held_after l.register.limits l.register.history) told l.page);
    }
