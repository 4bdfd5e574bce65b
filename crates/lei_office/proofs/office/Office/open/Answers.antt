use Rattle.std.proofs.Common.{subst}
use Rattle.register_history.proofs.Chained.{legal-chained}
use Rattle.register_history.proofs.Orders.{never_fall, numbered}
use Rattle.register_history.proofs.Passing.{all_permitted}
use Rattle.register_history.proofs.Registers.{after-fit}
use Rattle.lei_office.specs.Opening.{IsFoundInStore}
use Rattle.lei_office.proofs.office.Office.open.Goals as goal

pub returns-in-Ok-Sound-clause-sound : goal.returns-in-Ok-Sound-clause-sound
returns-in-Ok-Sound-clause-sound g c = let office = c.in-Ok-Sound.register in (after-fit office.limits office.history).sound

pub returns-in-Ok-Sound-clause-chained : goal.returns-in-Ok-Sound-clause-chained
returns-in-Ok-Sound-clause-chained g c =
    let found = subst (IsFoundInStore c.args.limits (g.K.Keeper.tables c.read_store.new.keeper)) c.in-Ok-Sound.field-0-is c.in-Ok-Sound.ensures.found in
    legal-chained c.in-Ok-Sound.register found.1

pub returns-in-Ok-Sound-clause-parents : goal.returns-in-Ok-Sound-clause-parents
returns-in-Ok-Sound-clause-parents g c = let office = c.in-Ok-Sound.register in (after-fit office.limits office.history).parents

pub returns-in-Ok-Sound-clause-apart : goal.returns-in-Ok-Sound-clause-apart
returns-in-Ok-Sound-clause-apart g c = let office = c.in-Ok-Sound.register in (after-fit office.limits office.history).apart

pub returns-in-Ok-Sound-clause-permitted : goal.returns-in-Ok-Sound-clause-permitted
returns-in-Ok-Sound-clause-permitted g c = all_permitted c.in-Ok-Sound.register

pub returns-in-Ok-Sound-clause-moments : goal.returns-in-Ok-Sound-clause-moments
returns-in-Ok-Sound-clause-moments g c =
    let found = subst (IsFoundInStore c.args.limits (g.K.Keeper.tables c.read_store.new.keeper)) c.in-Ok-Sound.field-0-is c.in-Ok-Sound.ensures.found in
    never_fall c.in-Ok-Sound.register found.1

pub returns-in-Ok-Sound-clause-uploads : goal.returns-in-Ok-Sound-clause-uploads
returns-in-Ok-Sound-clause-uploads g c =
    let found = subst (IsFoundInStore c.args.limits (g.K.Keeper.tables c.read_store.new.keeper)) c.in-Ok-Sound.field-0-is c.in-Ok-Sound.ensures.found in
    numbered c.in-Ok-Sound.register found.1
