use Rattle.std.proofs.Common.{◌++◌, ◌∷◌, [], ◌≤◌, sym, ap, ◌∙◌, subst, rules}
use Rattle.register_table.specs.Held.{Held, rows}
use Rattle.register_history.specs.Legal.{Legal}
use Rattle.register_history.specs.State.{OfficeState, office_of}
use Rattle.register_history.proofs.TableLemmas.{entry-may}
use Rattle.register_state.specs.Books.{office_with_entry, office_writes}
use Rattle.register_state.specs.Deciding.{FitsNext}
use Rattle.register_state.proofs.Growing.{books-push}
use Rattle.std.specs.Prelude.{IfSome}
use Rattle.register_table.specs.Undos.{IsLater}
use Rattle.register_history.specs.Kept.{AreTablesOf, AreTablesWith, Keeps}
use Rattle.register_state.specs.Crashes.{LeavesAlso}
use Rattle.register_history.specs.Touching.{Touches}
use Rattle.register_history.proofs.KeptLemmas.{writes-touch}
use Rattle.register_history.proofs.TableLemmas.{held-told, kept-push, told-held}
use Rattle.register_state.proofs.books.Books.add.Goals as goal

pub apply-requires-clause-may : goal.apply-requires-clause-may
apply-requires-clause-may g c =
    let inside = c.self.inside in
    let bound : inside.limits.records ≤ 4294967295 = search rules in
    entry-may inside.limits inside.ledger.entries (rows inside.table.held) c.args.entry c.args.writes.now bound c.self.invariant.of_table.rows
    (c.requires.writes ∙ ap (λ o. office_writes o c.args.entry) (sym c.self.view_is))

pub invariant_of-self-in-Ok : goal.invariant_of-self-in-Ok
invariant_of-self-in-Ok g c =
    let inside = c.self.inside in
    let e = c.args.entry in
    let L : OfficeState → Type 0 = λ o. Legal (office_with_entry o e) in
    let F : OfficeState → Type 0 = λ o. FitsNext o e in
    let applied = c.in_ok-apply.ensures in
    books-push inside.limits inside.ledger.entries _ inside.table _ e c.args.writes.now c.self.invariant (subst L (sym c.self.view_is) c.requires.legal)
    (subst F (sym c.self.view_is) c.requires.fits) (c.requires.writes ∙ ap (λ o. office_writes o e) (sym c.self.view_is)) c.in-Ok.ensures.entries applied.held applied.rows applied.numbers

pub returns-in-Ok-clause-kept : goal.returns-in-Ok-clause-kept
returns-in-Ok-clause-kept g c =
    let inside = c.self.inside in
    let e = c.args.entry in
    let old = inside.table.held in
    let told = g.K.Keeper.tables c.args.keeper.now in
    let now = g.K.Keeper.tables c.keep.new.keeper in
    let F : OfficeState → Type 0 = λ o. FitsNext o e in
    let fits = subst F (sym c.self.view_is) c.requires.fits in
    let later = subst (λ n. IsLater n old) (sym fits.0) c.self.invariant.of_table.numbers in
    let touches = subst (Touches e.seq old) (sym c.in_ok-apply.ensures.held) (writes-touch e.seq c.args.writes.now old later) in
    let keeps = told-held inside.limits inside.ledger.entries inside.table told c.self.invariant.of_table (subst (Keeps told) (sym c.self.view_is) c.requires.kept) in
    held-told inside.limits c.keep.new.ledger.entries c.apply.new.self now (invariant_of-self-in-Ok g c).of_table
    (subst (λ l. IfSome now (AreTablesWith l c.apply.new.self.held)) (sym c.in-Ok.ensures.entries) (c.in-Ok.ensures.kept old touches keeps))

pub returns-in-Err-clause-leaves_refused : goal.returns-in-Err-clause-leaves_refused
returns-in-Err-clause-leaves_refused g c =
    let inside = c.self.inside in
    let office = office_of inside.limits inside.ledger.entries in
    let e = c.args.entry in
    let old = inside.table.held in
    let told = g.K.Keeper.tables c.args.keeper.now in
    let before = g.K.Keeper.leaves c.args.keeper.now in
    let now = g.K.Keeper.leaves c.keep.new.keeper in
    let F : OfficeState → Type 0 = λ o. FitsNext o e in
    let fits = subst F (sym c.self.view_is) c.requires.fits in
    let writes = c.requires.writes ∙ ap (λ o. office_writes o e) (sym c.self.view_is) in
    let later = subst (λ n. IsLater n old) (sym fits.0) c.self.invariant.of_table.numbers in
    let touches = subst (Touches e.seq old) (sym c.in_ok-apply.ensures.held) (writes-touch e.seq c.args.writes.now old later) in
    let keeps = told-held inside.limits inside.ledger.entries inside.table told c.self.invariant.of_table (subst (Keeps told) (sym c.self.view_is) c.requires.kept) in
    let applied = c.in_ok-apply.ensures in
    let made = kept-push inside.limits inside.ledger.entries inside.table c.apply.new.self e c.args.writes.now c.self.invariant.of_table fits.0 writes applied.held applied.rows applied.numbers in
    let A : Held → Type 0 = λ h. LeavesAlso (AreTablesWith (inside.ledger.entries ++ e ∷ []) h) before now in
    let O : OfficeState → Type 0 = λ o. LeavesAlso (AreTablesOf (office_with_entry o e)) before now in
    subst O c.self.view_is (subst A made.held (c.in-Err.ensures.leaves_refused old touches keeps))
