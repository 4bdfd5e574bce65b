use Rattle.std.proofs.Common.{◌≤◌, sym, ap, ◌∙◌, subst, rules}
use Rattle.register_table.specs.Held.{rows}
use Rattle.register_history.specs.Legal.{Legal}
use Rattle.register_history.specs.State.{OfficeState}
use Rattle.register_history.proofs.TableLemmas.{entry-may}
use Rattle.register_state.specs.Books.{office_with_entry, office_writes}
use Rattle.register_state.specs.Deciding.{FitsNext}
use Rattle.register_state.proofs.Growing.{books-push}
use Rattle.register_state.proofs.books.Books.add_kept.Goals as goal

pub apply-requires-clause-may : goal.apply-requires-clause-may
apply-requires-clause-may c =
    let inside = c.self.inside in
    let bound : inside.limits.records ≤ 4294967295 = search rules in
    entry-may inside.limits inside.ledger.entries (rows inside.table.held) c.args.entry c.args.writes.now bound c.self.invariant.of_table.rows
    (c.requires.writes ∙ ap (λ o. office_writes o c.args.entry) (sym c.self.view_is))

pub invariant_of-self-2 : goal.invariant_of-self-2
invariant_of-self-2 c =
    let inside = c.self.inside in
    let e = c.args.entry in
    let L : OfficeState → Type 0 = λ o. Legal (office_with_entry o e) in
    let F : OfficeState → Type 0 = λ o. FitsNext o e in
    let applied = c.in_ok-apply.ensures in
    books-push inside.limits inside.ledger.entries _ inside.table _ e c.args.writes.now c.self.invariant (subst L (sym c.self.view_is) c.requires.legal)
    (subst F (sym c.self.view_is) c.requires.fits) (c.requires.writes ∙ ap (λ o. office_writes o e) (sym c.self.view_is)) (search rules) applied.held applied.rows applied.numbers
