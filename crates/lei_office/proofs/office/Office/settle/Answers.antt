use Rattle.std.proofs.Common.{subst}
use Rattle.register_state.specs.Crashes.{CrashStays}
use Rattle.lei_office.specs.Offices.{KeptOffice}
use Rattle.lei_office.proofs.office.Office.settle.Goals as goal

pub returns-clause-crash : goal.returns-clause-crash
returns-clause-crash g c =
    let new = c.settle.new in
    let Stays : KeptOffice g.row.K.Denot → Type 0 = λ old.
    CrashStays old.office new.self (g.K.Keeper.tables new.keeper) (g.K.Keeper.leaves old.keeper) (g.K.Keeper.leaves new.keeper) in
    subst Stays c.self.view_is c.settle.ensures.crash
