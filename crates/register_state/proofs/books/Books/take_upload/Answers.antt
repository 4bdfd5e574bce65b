use Rattle.std.proofs.Common.{◌≤◌, ap, length, subst, sym, ◌∙◌}
use Rattle.std.proofs.lemmas.List.{length-map}
use Rattle.item_fields.specs.Items.{ready}
use Rattle.lei_records.specs.RuleNumbers.{rules_of}
use Rattle.upload_format.specs.Bodies.{ready_upload}
use Rattle.upload_format.proofs.Ready.{ready-raws}
use Rattle.register_history.specs.State.{OfficeState, office_of}
use Rattle.register_history.proofs.Registers.{after-fit, upload-within}
use Rattle.register_state.specs.Planning.{IsTakenBy}
use Rattle.register_state.proofs.Planned.{judged_by}
use Rattle.register_state.proofs.books.Books.take_upload.Goals as goal

pub judge-requires-clause-count : goal.judge-requires-clause-count
judge-requires-clause-count g c =
    let rules = rules_of c.args.terms.now.rules in
    let is = ready-raws rules c.args.call.now.body c.in-Ok.items.items (ap (ready_upload rules) (sym c.as_slice.ensures) ∙ c.in-Ok.ensures) in
    subst (λ n. n ≤ 5000) (sym (ap length (c.as_slice-2.ensures.value ∙ is.2) ∙ length-map is.0 (ready rules))) (upload-within c.args.call.now.body is.0 is.1)

pub judge-requires-clause-fits : goal.judge-requires-clause-fits
judge-requires-clause-fits g c =
    let limit = ap (λ s. s.limit) c.sitting-sitting.ensures in
    rw (c.self.invariant.of_table.rows, limit) (after-fit c.self.inside.limits c.self.inside.ledger.entries).fits

pub add_judged-requires-clause-judged : goal.add_judged-requires-clause-judged
add_judged-requires-clause-judged g c =
    let rules = rules_of c.args.terms.now.rules in
    let is = ready-raws rules c.args.call.now.body c.in-Ok.items.items (ap (ready_upload rules) (sym c.as_slice.ensures) ∙ c.in-Ok.ensures) in
    let inside = office_of c.self.inside.limits c.self.inside.ledger.entries in
    let J : OfficeState → Type 0 = λ o. IsTakenBy o c.args.call.now c.args.terms.now c.in_ok-judged.judged in
    subst J c.self.view_is (judged_by inside c.args.call.now c.args.terms.now c.in_ok-judged.judged is.0 _ _ _ is.1
    (c.as_slice-2.ensures.value ∙ is.2) c.sitting-sitting.ensures c.self.invariant.of_table.rows c.in_ok-judged.ensures)
