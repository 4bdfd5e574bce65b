-- A request is never decided to be refused with `KeeperFault`: only the keeper finds that nothing can be kept.
use Rattle.std.proofs.Common.{◌≡◌, ℕ, List, ◌||◌, ◌==◌, Bool, true, false, cond, ltb, length, is_some, Option, Some, None, Result, Ok, Err, subst, ◌∙◌}
use Rattle.upload_format.specs.Bodies.{upload}
use Rattle.register_words.specs.declared.malformed.Malformed.{Malformed}
use Rattle.lei_code.specs.Texts.{Lei, Text}
use Rattle.lei_records.specs.Rows.{Row}
use Rattle.lei_records.specs.Tables.{row_at}
use Rattle.item_fields.specs.declared.item.RawItem.{RawItem}
use Rattle.lei_values.specs.declared.entry.KeptEntry.{KeptEntry}
use Rattle.register_state.specs.Books.{office_writes}
use Rattle.register_state.specs.Deciding.{AddsNext, Decides, FitsNext}
use Rattle.register_state.specs.declared.decision.Decision.{Decision}
use Rattle.register_state.specs.declared.decision.Decision.TheVariants.{Adds, Stays}
use Rattle.register_words.specs.declared.sheets.Form.{Form}
use Rattle.register_words.specs.declared.sheets.Sheet.{Sheet}
use Rattle.copy_forms.specs.Trails.{Publication, Trail}
use Rattle.golden_shelf.specs.declared.fault.ShelfFault.{ShelfFault}
use Rattle.golden_shelf.specs.Bases.{base_in, trail_moments}
use Rattle.golden_shelf.specs.Shelves.{latest}
use Rattle.register_table.specs.Undos.{WriteList}
use Rattle.upload_ledger.specs.History.{accredited, ahead, fresh, kept, number_taken, Place, place, published, repeat_of, unknown_issuer}
use Rattle.register_words.specs.declared.reply.Refusal.TheVariants as refusals
use Rattle.register_words.specs.declared.reply.Refusal.TheVariants.{KeeperFault}
use Rattle.register_words.specs.declared.reply.Reply.{Reply}
use Rattle.register_words.specs.declared.reply.Reply.TheVariants.{Words}
use Rattle.register_words.specs.declared.request.Call.{Call}
use Rattle.register_words.specs.Requests.{IsRequest}
use Rattle.register_words.specs.declared.request.Request.{Request}
use Rattle.register_words.specs.declared.request.Request.TheVariants.{Accredit, Copy, Delta, Kept, Publish, Show, Status, Upload}
use Rattle.register_history.specs.Publications.{trail}
use Rattle.register_history.specs.Register.{after}
use Rattle.register_history.specs.Replies.{Outcome, accredit_outcome, accreditation, adds, answer_outcome, body_outcome, copy_of_latest, delta_to_latest, is_full, is_too_much, next_publication, outcome_at, place_outcome, publication_entry, publish_outcome, show_outcome, stays, taken_upload, upload_outcome}
use Rattle.register_history.specs.State.{OfficeState}
use Rattle.register_history.specs.declared.terms.EntryTerms.{EntryTerms}

-- the outcome, by the form of the decision
pub stays_of : (office : OfficeState) (request : Request) (outcome : Outcome) (decision : Decision) (reply : Reply) → decision ≡ Stays reply
    → Decides office request outcome (Ok decision) → outcome ≡ stays reply
stays_of office request outcome decision reply is decides = (let D : Decision → Type 0 = λ d. Decides office request outcome (Ok d) in subst D is decides)

pub adds_is : (office : OfficeState) (request : Request) (outcome : Outcome) (decision : Decision) (entry : KeptEntry) (list : WriteList) → decision ≡ Adds entry list
    → Decides office request outcome (Ok decision) → outcome ≡ adds entry
adds_is office request outcome decision entry list is decides = (let D : Decision → Type 0 = λ d. Decides office request outcome (Ok d) in (subst D is decides).0)

pub adds_of : (office : OfficeState) (request : Request) (outcome : Outcome) (decision : Decision) (entry : KeptEntry) (list : WriteList) → decision ≡ Adds entry list
    → Decides office request outcome (Ok decision) → list ≡ office_writes office entry
adds_of office request outcome decision entry list is decides = (let D : Decision → Type 0 = λ d. Decides office request outcome (Ok d) in (subst D is decides).1)

pub next_of : (office : OfficeState) (request : Request) (decision : Decision) (entry : KeptEntry) (list : WriteList) → decision ≡ Adds entry list → AddsNext office request (Ok decision)
    → IsRequest request × FitsNext office entry
next_of office request decision entry list is next = (let D : Decision → Type 0 = λ d. AddsNext office request (Ok d) in subst D is next)

-- the reply of an outcome that adds nothing isn't `KeeperFault`
abbrev IsNoFault : Outcome → Type 0
IsNoFault (stays reply) = reply ≡ Words KeeperFault → ⊥
IsNoFault (adds e) = Unit {0}

of_outcome : (outcome : Outcome) (reply : Reply) → IsNoFault outcome → outcome ≡ stays reply → reply ≡ Words KeeperFault → ⊥
of_outcome (stays other) reply none is fault = (let same : other ≡ reply = cc in none (same ∙ fault))
of_outcome (adds e) reply none is fault = cc

accredit-none : (office : OfficeState) (issuer : Lei) (terms : EntryTerms) (found : Option Text) → IsNoFault (accredit_outcome office issuer terms found)
accredit-none office issuer terms None = elim (is_full office) as (λ b. IsNoFault (cond b (stays (Words refusals.LedgerFull)) (adds (accreditation office.history issuer terms)))) [ true ↦ λ is. cc | false ↦ tt ]
accredit-none office issuer terms (Some text) = λ is. cc

body-none : (office : OfficeState) (call : Call) (terms : EntryTerms) (read : Result (List RawItem) Malformed) → IsNoFault (body_outcome office call terms read)
body-none office call terms (Ok raws) = elim (is_full office || is_too_much office call.body) as (λ b. IsNoFault (cond b (stays (Words refusals.LedgerFull)) (adds (taken_upload office call terms raws)))) [ true ↦ λ is. cc | false ↦ tt ]
body-none office call terms (Err fault) = λ is. cc

place-none : (office : OfficeState) (call : Call) (terms : EntryTerms) (at : Place) → IsNoFault (place_outcome office call terms at)
place-none office call terms unknown_issuer = λ is. cc
place-none office call terms (repeat_of answer) = λ is. cc
place-none office call terms number_taken = λ is. cc
place-none office call terms (ahead next) = λ is. cc
place-none office call terms fresh = body-none office call terms (upload call.body)

upload-none : (office : OfficeState) (call : Call) (terms : EntryTerms) → IsNoFault (upload_outcome office call terms)
unfolding upload_outcome
upload-none office call terms = elim (ltb office.limits.body (length call.body)) as (λ b. IsNoFault (cond b (stays (Words refusals.TooLong)) (place_outcome office call terms (place office.history call.office call.number call.body)))) [
  | true ↦ λ is. cc
  | false ↦ place-none office call terms (place office.history call.office call.number call.body)
]

show-none : (found : Option Row) → IsNoFault (show_outcome found)
show-none None = λ is. cc
show-none (Some row) = λ is. cc

answer-none : (found : Option Text) → IsNoFault (answer_outcome found)
answer-none None = λ is. cc
answer-none (Some text) = λ is. cc

kept-none : (known : Bool) (found : Option Text) → IsNoFault (cond known (answer_outcome found) (stays (Words refusals.IssuerUnknown)))
kept-none true found = answer-none found
kept-none false found = λ is. cc

publish-none : (office : OfficeState) (number : ℕ) (terms : EntryTerms) (found : Option Text) → IsNoFault (publish_outcome office number terms found)
publish-none office number terms None = by_tests (number == next_publication office.history) (is_full office)
  where
    by_tests : (next full : Bool) → IsNoFault (cond next (cond full (stays (Words refusals.LedgerFull)) (adds (publication_entry office number terms))) (stays (Words (refusals.NumberAhead (next_publication office.history)))))
    by_tests true true = λ is. cc
    by_tests true false = tt
    by_tests false full = λ is. cc
publish-none office number terms (Some text) = λ is. cc

copy-none : (sheet : Sheet) (form : Form) (number : ℕ) (found : Option Publication) → IsNoFault (copy_of_latest sheet form number found)
copy-none sheet form number None = λ is. cc
copy-none sheet form number (Some publication) = λ is. cc

delta-none : (sheet : Sheet) (form : Form) (made : Trail) (found : Result ℕ ShelfFault) (last : Option Publication) → IsNoFault (delta_to_latest sheet form made found last)
delta-none sheet form made (Err ShelfFault.NothingPublished) last = λ is. cc
delta-none sheet form made (Err ShelfFault.PublicationUnknown) last = λ is. cc
delta-none sheet form made (Err ShelfFault.NoBase) last = λ is. cc
delta-none sheet form made (Err ShelfFault.NoMemory) last = λ is. cc
delta-none sheet form made (Ok from) None = λ is. cc
delta-none sheet form made (Ok from) (Some publication) = λ is. cc

outcome-none : (office : OfficeState) (request : Request) (terms : EntryTerms) → IsNoFault (outcome_at office request terms)
outcome-none office (Accredit issuer) terms = accredit-none office issuer terms (accredited office.history issuer)
outcome-none office (Upload call) terms = upload-none office call terms
outcome-none office (Kept issuer number) terms = kept-none (is_some (accredited office.history issuer)) (kept office.history issuer number)
outcome-none office (Show lei) terms = show-none (row_at (after office.limits office.history) lei)
outcome-none office (Publish number) terms = publish-none office number terms (published office.history number)
outcome-none office (Copy sheet form) terms = copy-none sheet form (length (trail office)) (latest (trail office))
outcome-none office (Delta base sheet form) terms = delta-none sheet form (trail office) (base_in (trail_moments (trail office)) base) (latest (trail office))
outcome-none office Status terms = λ is. cc

pub never_fault : (office : OfficeState) (request : Request) (terms : EntryTerms) (reply : Reply) → outcome_at office request terms ≡ stays reply → reply ≡ Words KeeperFault → ⊥
never_fault office request terms reply is fault = of_outcome (outcome_at office request terms) reply (outcome-none office request terms) is fault
