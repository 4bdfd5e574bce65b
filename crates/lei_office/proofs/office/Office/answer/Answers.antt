use Rattle.std.proofs.Common.{subst}
use Rattle.register_history.proofs.Chained.{legal-chained}
use Rattle.register_history.proofs.Orders.{never_fall, numbered}
use Rattle.register_history.proofs.Passing.{all_permitted}
use Rattle.register_history.proofs.Registers.{after-fit}
use Rattle.register_state.specs.Crashes.{CrashStays}
use Rattle.lei_office.specs.Offices.{KeptOffice}
use Rattle.lei_office.proofs.office.Office.answer.Goals as goal

pub returns-clause-sound : goal.returns-clause-sound
returns-clause-sound g c = let office = c.answer.new.self in (after-fit office.limits office.history).sound

pub returns-clause-chained : goal.returns-clause-chained
returns-clause-chained g c = legal-chained c.answer.new.self c.answer.ensures.legal

pub returns-clause-parents : goal.returns-clause-parents
returns-clause-parents g c = let office = c.answer.new.self in (after-fit office.limits office.history).parents

pub returns-clause-apart : goal.returns-clause-apart
returns-clause-apart g c = let office = c.answer.new.self in (after-fit office.limits office.history).apart

pub returns-clause-permitted : goal.returns-clause-permitted
returns-clause-permitted g c = all_permitted c.answer.new.self

pub returns-clause-moments : goal.returns-clause-moments
returns-clause-moments g c = never_fall c.answer.new.self c.answer.ensures.legal

pub returns-clause-uploads : goal.returns-clause-uploads
returns-clause-uploads g c = numbered c.answer.new.self c.answer.ensures.legal

pub returns-clause-crash : goal.returns-clause-crash
returns-clause-crash g c =
    let new = c.answer.new in
    let Stays : KeptOffice g.row.K.Denot → Type 0 = λ old.
    CrashStays old.office new.self (g.K.Keeper.tables new.keeper) (g.K.Keeper.leaves old.keeper) (g.K.Keeper.leaves new.keeper) in
    subst Stays c.self.view_is c.answer.ensures.crash
