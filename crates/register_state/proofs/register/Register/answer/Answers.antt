use Rattle.std.proofs.Common.{subst}
use Rattle.register_history.specs.State.{OfficeState}
use Rattle.register_state.specs.Crashes.{CrashStays}
use Rattle.register_history.specs.Replies.{outcome_at}
use Rattle.register_state.proofs.Crashing.{crash-added, crash-refused}
use Rattle.register_state.proofs.Growing.{legal-new, terms-newest}
use Rattle.register_state.proofs.Outcomes.{adds_is, never_fault, next_of, stays_of}
use Rattle.register_state.proofs.register.Register.answer.Goals as goal

pub returns-in-Ok-Stays-clause-reply : goal.returns-in-Ok-Stays-clause-reply
returns-in-Ok-Stays-clause-reply g c =
    let office = c.self.inside.books in
    let at = c.terms-terms.result in
    let found = c.in-Ok-Stays in
    never_fault office c.args.request.now at found.reply (stays_of office c.args.request.now (outcome_at office c.args.request.now at) found.field-0 found.reply found.field-0-is found.ensures.decides)

pub decide-requires-clause-follows : goal.decide-requires-clause-follows
decide-requires-clause-follows g c = λ _ _.
    let stamp = c.terms-terms.ensures in
    terms-newest c.self.inside.books c.args.moment c.terms-terms.result stamp.terms stamp.legal

pub add-requires-clause-legal : goal.add-requires-clause-legal
add-requires-clause-legal g c =
    let office = c.self.inside.books in
    let at = c.terms-terms.result in
    let found = c.in-Ok-Adds in
    let stamp = c.terms-terms.ensures in
    let next = next_of office c.args.request.now found.field-0 found.entry found.writes found.field-0-is found.ensures.next in
    legal-new office c.args.request.now c.args.moment at found.entry next.0 stamp.moment stamp.terms stamp.legal
    (adds_is office c.args.request.now (outcome_at office c.args.request.now at) found.field-0 found.entry found.writes found.field-0-is found.ensures.decides)

pub returns-in-Ok-clause-crash : goal.returns-in-Ok-clause-crash
returns-in-Ok-clause-crash g c =
    let added = c.in-Ok.ensures in
    let told = g.K.Keeper.tables c.add.new.keeper in
    let before = g.K.Keeper.leaves c.args.keeper.now in
    let after = g.K.Keeper.leaves c.add.new.keeper in
    let C : OfficeState → Type 0 = λ o. CrashStays o c.add.new.self told before after in
    subst C c.self.view_is (crash-added c.self.inside.books c.add.new.self c.in-Ok-Adds.entry told before after added.added added.kept added.leaves_added)

pub returns-in-Ok-Adds-clause-crash : goal.returns-in-Ok-Adds-clause-crash
returns-in-Ok-Adds-clause-crash g c =
    let refused = c.in-Err-add.ensures in
    let office = c.self.inside.books in
    let at = c.terms-terms.result in
    let found = c.in-Ok-Adds in
    let stamp = c.terms-terms.ensures in
    let next = next_of office c.args.request.now found.field-0 found.entry found.writes found.field-0-is found.ensures.next in
    let legal = legal-new office c.args.request.now c.args.moment at found.entry next.0 stamp.moment stamp.terms stamp.legal
    (adds_is office c.args.request.now (outcome_at office c.args.request.now at) found.field-0 found.entry found.writes found.field-0-is found.ensures.decides) in
    let told = g.K.Keeper.tables c.add.new.keeper in
    let before = g.K.Keeper.leaves c.args.keeper.now in
    let after = g.K.Keeper.leaves c.add.new.keeper in
    let C : OfficeState → Type 0 = λ o. CrashStays o c.add.new.self told before after in
    subst C c.self.view_is (crash-refused c.self.inside.books c.add.new.self c.in-Ok-Adds.entry told before after refused.stays legal refused.leaves_refused)
