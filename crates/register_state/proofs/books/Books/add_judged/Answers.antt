use Rattle.std.proofs.Common.{ap, refl, subst, ◌∙◌}
use Rattle.register_words.specs.Limits.{AreLimits}
use Rattle.register_history.specs.Replies.{upload_entry}
use Rattle.register_history.specs.State.{OfficeState}
use Rattle.register_history.proofs.TableLemmas.{upload-next}
use Rattle.register_state.proofs.Planned.{judged_decides}
use Rattle.register_state.proofs.books.Books.add_judged.Goals as goal

pub returns-clause-next : goal.returns-clause-next
returns-clause-next c =
    let office = c.args.self.now in
    let A : OfficeState → Type 0 = λ o. AreLimits o.limits in
    let verdicts = c.as_slice.result.now in
    let valid = c.as_bytes.ensures.valid in
    let entries = c.entries.ensures ∙ ap (λ o. o.history) c.self.view_is in
    let added = c.in_ok-entry.ensures ∙ ap (λ h. upload_entry h c.args.call.now c.args.terms.now verdicts) entries in (
      (valid, c.requires.numbered),
      upload-next office.limits office.history c.args.call.now c.args.terms.now verdicts c.in_ok-entry.entry
          (subst A c.self.view_is c.self.invariant.of_limits) valid added c.requires.entry c.requires.bytes,
    )

pub returns-clause-decides : goal.returns-clause-decides
returns-clause-decides c =
    let entries = c.entries.ensures ∙ ap (λ o. o.history) c.self.view_is in
    let added = c.in_ok-entry.ensures ∙ ap (λ h. upload_entry h c.args.call.now c.args.terms.now c.as_slice.result.now) entries in
    judged_decides c.args.self.now c.args.call.now c.args.terms.now c.args.judged c.in_ok-entry.entry _ c.requires.judged c.requires.entry
    c.requires.bytes (added ∙ ap (λ vs. upload_entry c.args.self.now.history c.args.call.now c.args.terms.now vs) c.as_slice.ensures) refl
