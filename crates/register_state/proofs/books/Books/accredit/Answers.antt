use Rattle.std.proofs.Common.{ap, subst, sym, ◌∙◌}
use Rattle.register_words.specs.Limits.{AreLimits}
use Rattle.register_history.specs.Replies.{accreditation}
use Rattle.register_history.specs.State.{OfficeState}
use Rattle.register_history.proofs.TableLemmas.{accreditation-next}
use Rattle.register_state.proofs.books.Books.accredit.Goals as goal

pub returns-clause-next : goal.returns-clause-next
returns-clause-next c =
    let office = c.args.self.now in
    let A : OfficeState → Type 0 = λ o. AreLimits o.limits in
    let entries = c.entries.ensures ∙ ap (λ o. o.history) c.self.view_is in
    let valid = c.as_bytes.ensures.valid in (
      valid,
      accreditation-next office.limits office.history c.args.issuer.now c.args.terms.now c.in_ok-entry.entry (subst A c.self.view_is c.self.invariant.of_limits) valid c.is_full.ensures.few
          (c.in_ok-entry.ensures ∙ ap (λ h. accreditation h c.args.issuer.now c.args.terms.now) entries) (sym c.is_full.ensures.value ∙ c.if-is_full.false),
    )
