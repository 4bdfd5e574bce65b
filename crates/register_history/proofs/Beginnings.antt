-- How the answer to the request of an entry starts: never with a digit, as the line of an entry does.
use Rattle.std.proofs.Common.{◌≡◌, ℕ, ◌+◌, ◌-◌, ◌<◌, ◌==◌, ◌||◌, ltb, leb, Bool, true, false, cond, List, [], ◌∷◌, ◌++◌, length, filter, find, slice_get, bytes_eq, is_some, zero, suc, Option, Some, None, option_map, Result, Ok, Err, refl, sym, subst, append_assoc, append-nil, arith}
use Rattle.std.specs.List.{AllByRecursion}
use Rattle.lei_code.specs.Texts.{Body, Lei, Text}
use Rattle.lei_values.specs.declared.entry.KeptEntry.{KeptEntry}
use Rattle.upload_format.specs.Bodies.{upload}
use Rattle.register_words.specs.declared.malformed.Malformed.{Malformed}
use Rattle.register_words.specs.declared.malformed.Malformed.TheVariants.{NotJson, NotAnUpload, NoItems, TooManyItems}
use Rattle.item_fields.specs.declared.item.RawItem.{RawItem}
use Rattle.upload_ledger.specs.History.{History, Place, accredited, ahead, entry_numbered, fresh, is_accreditation_of, is_publication, is_upload_of, last, next_number, number_taken, place, place_of_taken, publications, published, repeat_of, unknown_issuer, upload_at, uploads}
use Rattle.answer_texts.specs.Answers.{accreditation_text, publication_text, upload_text}
use Rattle.register_words.specs.declared.limits.Limits.{Limits}
use Rattle.register_words.specs.declared.reply.Refusal.{Refusal}
use Rattle.register_words.specs.declared.reply.Refusal.TheVariants as refusals
use Rattle.register_words.specs.declared.reply.Reply.TheVariants.{Words}
use Rattle.register_words.specs.declared.request.Call.{Call}
use Rattle.register_words.specs.declared.request.Request.{Request}
use Rattle.register_words.specs.declared.request.Request.TheVariants.{Accredit, Publish, Upload}
use Rattle.register_history.specs.Legal.{IsNext, Legal, LegalAfter, request_of}
use Rattle.register_history.specs.Replies.{Outcome, accredit_outcome, accreditation, adds, body_outcome, is_full, is_too_much, next_publication, outcome_at, place_outcome, publication_entry, publish_outcome, stays, taken_upload, upload_outcome, terms_by}
use Rattle.register_history.specs.State.{OfficeState, office_of}
use Rattle.register_words.specs.Refusals.{refusal_words, reply_words}
use Rattle.register_history.proofs.EntryLines.{first}
use Rattle.register_history.proofs.KeptLemmas.{all-push}
use Rattle.register_history.specs.declared.terms.EntryTerms.{EntryTerms}

-- the first byte of the text is greater than the digits
abbrev pub IsApart : List ℕ → Type 0
IsApart text = 57 < first text

-- the same for the answer of each entry
abbrev pub AreApart : History → Type 0
AreApart history = AllByRecursion (λ e. IsApart e.answer) history

-- ---- refusals start with a letter

malformed-apart : (fault : Malformed) → IsApart (refusal_words (refusals.Malformed fault))
malformed-apart NotJson = omega arith
malformed-apart NotAnUpload = omega arith
malformed-apart NoItems = omega arith
malformed-apart TooManyItems = omega arith

refusal-apart : (refusal : Refusal) → IsApart (refusal_words refusal)
refusal-apart (refusals.Malformed fault) = malformed-apart fault
refusal-apart refusal = omega arith

-- ---- what is found in a history

-- the answer that is given again, if there is one
abbrev FoundApart : Option Text → Type 0
FoundApart None = Unit {0}
FoundApart (Some text) = IsApart text

-- the entry whose answer is given again, if there is one
abbrev EntryApart : Option KeptEntry → Type 0
EntryApart None = Unit {0}
EntryApart (Some e) = IsApart e.answer

found-apart : (test : KeptEntry → Bool) (history : History) → AreApart history → EntryApart (find test history)
found-apart test [] apart = tt
found-apart test (e ∷ history) apart = elim (test e) as (λ b. EntryApart (cond b (Some e) (find test history))) [
  | true ↦ apart.0
  | false ↦ found-apart test history apart.1
]

answer-apart : (found : Option KeptEntry) → EntryApart found → FoundApart (option_map (λ e. e.answer) found)
answer-apart None apart = tt
answer-apart (Some e) apart = apart

filter-apart : (test : KeptEntry → Bool) (history : History) → AreApart history → AreApart (filter test history)
filter-apart test [] apart = tt
filter-apart test (e ∷ history) apart = elim (test e) as (λ b. AreApart (cond b (e ∷ filter test history) (filter test history))) [
  | true ↦ (apart.0, filter-apart test history apart.1)
  | false ↦ filter-apart test history apart.1
]

get-apart : (history : History) (place : ℕ) → AreApart history → EntryApart (slice_get history place)
get-apart [] place apart = tt
get-apart (e ∷ history) zero apart = apart.0
get-apart (e ∷ history) (suc place) apart = get-apart history place apart.1

-- the entry with a number
entry_numbered-apart : (entries : History) (number : ℕ) → AreApart entries → EntryApart (entry_numbered entries number)
entry_numbered-apart entries number apart = elim (number == 0) as (λ b. EntryApart (cond b None (slice_get entries (number - 1)))) [
  | true ↦ tt
  | false ↦ get-apart entries (number - 1) apart
]

-- what is answered again for a place
abbrev PlaceApart : Place → Type 0
PlaceApart (repeat_of answer) = IsApart answer
PlaceApart place = Unit {0}

taken-apart : (body : Body) (found : Option KeptEntry) → EntryApart found → PlaceApart (place_of_taken body found)
taken-apart body None apart = tt
taken-apart body (Some e) apart = elim (bytes_eq e.body body) as (λ b. PlaceApart (cond b (repeat_of e.answer) number_taken)) [ true ↦ apart | false ↦ tt ]

place-apart : (history : History) (issuer : Lei) (number : ℕ) (body : Body) → AreApart history → PlaceApart (place history issuer number body)
place-apart history issuer number body apart =
    by_tests (is_some (accredited history issuer)) (leb number (last history issuer)) (ltb (next_number history issuer) number)
  where
    repeated : PlaceApart (place_of_taken body (upload_at history issuer number))
    repeated = taken-apart body (upload_at history issuer number) (entry_numbered-apart (uploads history issuer) number (filter-apart (is_upload_of issuer) history apart))

    by_tests : (known old early : Bool)
        → PlaceApart (cond known (cond old (place_of_taken body (upload_at history issuer number)) (cond early (ahead (next_number history issuer)) fresh)) unknown_issuer)
    by_tests false old early = tt
    by_tests true true early = repeated
    by_tests true false true = tt
    by_tests true false false = tt

-- ---- the request of an entry, and its outcome

-- the entry has the kind, the office, the number and the body of the request that it was made for
abbrev pub IsFor : Request → KeptEntry → Type 0
IsFor (Accredit issuer) e = (e.kind ≡ 1) × (e.office ≡ issuer) × (e.number ≡ 0) × (e.body ≡ [])
IsFor (Upload call) e = (e.kind ≡ 2) × (e.office ≡ call.office) × (e.number ≡ call.number) × (e.body ≡ call.body)
IsFor (Publish number) e = (e.kind ≡ 3) × (e.office ≡ []) × (e.number ≡ number) × (e.body ≡ [])
IsFor request e = ⊥

-- the request is one that an entry is made for
abbrev pub IsTaken : Request → Type 0
IsTaken (Accredit issuer) = Unit {0}
IsTaken (Upload call) = Unit {0}
IsTaken (Publish number) = Unit {0}
IsTaken request = ⊥

-- an entry that is made for a request
pub record IsMade (office : OfficeState) (request : Request) (terms : EntryTerms) (e : KeptEntry) : Type 0 where
  pub seq : e.seq ≡ length office.history + 1
  pub own : IsFor request e
  pub at_moment : e.moment ≡ terms.moment
  pub of_rules : e.rules ≡ terms.rules
  pub apart : IsApart e.answer

-- the outcome of a request: an entry that is made for it, or a reply
abbrev pub Comes : OfficeState → Request → EntryTerms → Outcome → Type 0
Comes office request terms (stays reply) = IsApart (reply_words reply)
Comes office request terms (adds e) = IsMade office request terms e

accreditation-made : (office : OfficeState) (issuer : Lei) (terms : EntryTerms) → IsMade office (Accredit issuer) terms (accreditation office.history issuer terms)
unfolding accreditation_text
accreditation-made office issuer terms = record { seq = refl; own = (refl, refl, refl, refl); at_moment = refl; of_rules = refl; apart = omega arith }

accredit-comes : (office : OfficeState) (issuer : Lei) (terms : EntryTerms) (found : Option Text) → FoundApart found → Comes office (Accredit issuer) terms (accredit_outcome office issuer terms found)
accredit-comes office issuer terms None apart =
    elim (is_full office) as (λ b. Comes office (Accredit issuer) terms (cond b (stays (Words refusals.LedgerFull)) (adds (accreditation office.history issuer terms)))) [
      | true ↦ refusal-apart refusals.LedgerFull
      | false ↦ accreditation-made office issuer terms
    ]
accredit-comes office issuer terms (Some text) apart = apart

upload-made : (office : OfficeState) (call : Call) (terms : EntryTerms) (raws : List RawItem) → IsMade office (Upload call) terms (taken_upload office call terms raws)
unfolding upload_text
upload-made office call terms raws = record { seq = refl; own = (refl, refl, refl, refl); at_moment = refl; of_rules = refl; apart = omega arith }

body-comes : (office : OfficeState) (call : Call) (terms : EntryTerms) (read : Result (List RawItem) Malformed) → Comes office (Upload call) terms (body_outcome office call terms read)
body-comes office call terms (Ok raws) =
    elim (is_full office || is_too_much office call.body) as (λ b. Comes office (Upload call) terms (cond b (stays (Words refusals.LedgerFull)) (adds (taken_upload office call terms raws)))) [
      | true ↦ refusal-apart refusals.LedgerFull
      | false ↦ upload-made office call terms raws
    ]
body-comes office call terms (Err fault) = malformed-apart fault

place-comes : (office : OfficeState) (call : Call) (terms : EntryTerms) (at : Place) → PlaceApart at → Comes office (Upload call) terms (place_outcome office call terms at)
place-comes office call terms unknown_issuer apart = refusal-apart refusals.IssuerUnknown
place-comes office call terms (repeat_of answer) apart = apart
place-comes office call terms number_taken apart = refusal-apart refusals.NumberTaken
place-comes office call terms (ahead next) apart = refusal-apart (refusals.NumberAhead next)
place-comes office call terms fresh apart = body-comes office call terms (upload call.body)

upload-comes : (office : OfficeState) (call : Call) (terms : EntryTerms) → AreApart office.history → Comes office (Upload call) terms (upload_outcome office call terms)
unfolding upload_outcome
upload-comes office call terms apart =
    let at = place office.history call.office call.number call.body in
    elim (ltb office.limits.body (length call.body)) as (λ b. Comes office (Upload call) terms (cond b (stays (Words refusals.TooLong)) (place_outcome office call terms at))) [
      | true ↦ refusal-apart refusals.TooLong
      | false ↦ place-comes office call terms at (place-apart office.history call.office call.number call.body apart)
    ]

publication-made : (office : OfficeState) (number : ℕ) (terms : EntryTerms) → IsMade office (Publish number) terms (publication_entry office number terms)
unfolding publication_text
publication-made office number terms = record { seq = refl; own = (refl, refl, refl, refl); at_moment = refl; of_rules = refl; apart = omega arith }

publish-comes : (office : OfficeState) (number : ℕ) (terms : EntryTerms) (found : Option Text) → FoundApart found → Comes office (Publish number) terms (publish_outcome office number terms found)
publish-comes office number terms None apart = by_tests (number == next_publication office.history) (is_full office)
  where
    by_tests : (due full : Bool) → Comes office (Publish number) terms
        (cond due (cond full (stays (Words refusals.LedgerFull)) (adds (publication_entry office number terms))) (stays (Words (refusals.NumberAhead (next_publication office.history)))))
    by_tests true true = refusal-apart refusals.LedgerFull
    by_tests true false = publication-made office number terms
    by_tests false full = refusal-apart (refusals.NumberAhead (next_publication office.history))
publish-comes office number terms (Some text) apart = apart

pub request-comes : (office : OfficeState) (request : Request) (terms : EntryTerms) → AreApart office.history → IsTaken request → Comes office request terms (outcome_at office request terms)
request-comes office (Accredit issuer) terms apart taken =
    accredit-comes office issuer terms (accredited office.history issuer) (answer-apart (find (is_accreditation_of issuer) office.history) (found-apart (is_accreditation_of issuer) office.history apart))
request-comes office (Upload call) terms apart taken = upload-comes office call terms apart
request-comes office (Publish number) terms apart taken =
    let entries = publications office.history in
    publish-comes office number terms (published office.history number)
    (answer-apart (entry_numbered entries number) (entry_numbered-apart entries number (filter-apart is_publication office.history apart)))
request-comes office request terms apart taken = absurd taken

-- ---- legal histories

pub request-taken : (e : KeptEntry) (request : Request) → request_of e ≡ Some request → IsTaken request
request-taken e request is = by_kind (e.kind == 1) (e.kind == 2) (e.kind == 3) is
  where
    of_one : (one : Request) → IsTaken one → Some one ≡ Some request → IsTaken request
    of_one one taken same = (let this : one ≡ request = cc in subst IsTaken this taken)

    by_kind : (one two three : Bool)
        → cond one (Some (Accredit e.office)) (cond two (Some (Upload (record { office = e.office; number = e.number; body = e.body }))) (cond three (Some (Publish e.number)) None)) ≡ Some request
        → IsTaken request
    by_kind true two three same = of_one (Accredit e.office) tt same
    by_kind false true three same = of_one (Upload (record { office = e.office; number = e.number; body = e.body })) tt same
    by_kind false false true same = of_one (Publish e.number) tt same
    by_kind false false false same = cc

next-apart : (limits : Limits) (before : History) (e : KeptEntry) → AreApart before → IsNext (office_of limits before) e → IsApart e.answer
next-apart limits before e apart next =
    let office = office_of limits before in
    let terms = terms_by e.rules before e.moment in
    (subst (Comes office next.0 terms) next.5 (request-comes office next.0 terms apart (request-taken e next.0 next.1))).apart

legal-after : (limits : Limits) (before rest : History) → LegalAfter limits before rest → AreApart before → AreApart (before ++ rest)
legal-after limits before [] legal apart = subst AreApart (sym (append-nil before)) apart
legal-after limits before (e ∷ rest) legal apart =
    let pushed = all-push (λ e. IsApart e.answer) before e apart (next-apart limits before e apart legal.0) in
    subst AreApart (append_assoc before (e ∷ []) rest) (legal-after limits (before ++ e ∷ []) rest legal.1 pushed)

-- each answer of a legal history starts like this
pub legal-apart : (limits : Limits) (history : History) → Legal (office_of limits history) → AreApart history
unfolding Legal
legal-apart limits history legal = legal-after limits [] history legal tt
