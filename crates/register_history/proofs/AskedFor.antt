-- Stored entries and the requests that they were made for.
use Rattle.std.proofs.Common.{◌≡◌, ◌⊎◌, inl, inr, nat_lt, ℕ, ◌+◌, ℤ, List, [], length, codes, Bool, true, false, cond, ◌&&◌, ◌||◌, ◌==◌, is_none, Option, Some, None, Result, Ok, Err, refl, sym, ap, subst, ◌∙◌, arith}
use Rattle.std.proofs.lemmas.Bool.Decides.{nat_tests}
use Rattle.std.proofs.lemmas.Int.{ints}
use Rattle.lei_code.specs.Code.{IsValid}
use Rattle.lei_code.proofs.Faults.{fault_of-IsValid}
use Rattle.lei_shapes.specs.Moment.{IsMoment, is_moment}
use Rattle.lei_values.specs.declared.entry.KeptEntry.{KeptEntry}
use Rattle.upload_format.specs.Bodies.{upload}
use Rattle.register_words.specs.declared.malformed.Malformed.{Malformed}
use Rattle.item_fields.specs.declared.item.RawItem.{RawItem}
use Rattle.upload_ledger.specs.History.{History, accredited, ahead, fresh, number_taken, Place, place, published, repeat_of, unknown_issuer}
use Rattle.register_words.specs.declared.limits.Limits.{Limits}
use Rattle.register_history.specs.Damage.{entry_line, expected_text, is_lei, is_number, replayed_text, request_in, request_text, stored_accreditation, stored_publication, stored_request, stored_upload}
use Rattle.register_words.specs.declared.reply.Reply.{Reply}
use Rattle.register_words.specs.declared.reply.Reply.TheVariants.{Words}
use Rattle.register_words.specs.declared.reply.Refusal.TheVariants.{LedgerFull, TooLong}
use Rattle.register_words.specs.declared.request.Call.{Call}
use Rattle.register_words.specs.declared.request.Request.{Request}
use Rattle.register_words.specs.declared.request.Request.TheVariants.{Accredit, Publish, Upload}
use Rattle.register_history.specs.Legal.{IsNext, request_of, rules_may_follow}
use Rattle.register_words.specs.Requests.{IsRequest, IsUploadNumber}
use Rattle.register_history.specs.Replies.{accredit_outcome, accreditation, adds, body_outcome, is_full, is_too_much, outcome_at, outcome_by, place_outcome, stays, taken_upload, terms_by, upload_outcome}
use Rattle.register_history.specs.State.{OfficeState, office_of}
use Rattle.register_words.specs.Refusals.{reply_words}
use Rattle.register_history.proofs.Histories.{publish_adds}
use Rattle.register_history.specs.declared.terms.EntryTerms.{EntryTerms}

-- ---- the number of an entry that is added

unless_full : (full : Bool) (refused : Reply) (a e : KeptEntry) → cond full (stays (Words LedgerFull)) (adds a) ≡ adds e → a ≡ e
unless_full true refused a e is = cc
unless_full false refused a e is = cc

-- an accreditation that is added
pub accredit_adds : (office : OfficeState) (issuer : List ℕ) (terms : EntryTerms) (found : Option (List ℕ)) (e : KeptEntry) → accredit_outcome office issuer terms found ≡ adds e
    → accreditation office.history issuer terms ≡ e
accredit_adds office issuer terms None e is = unless_full (is_full office) (Words LedgerFull) (accreditation office.history issuer terms) e is
accredit_adds office issuer terms (Some text) e is = cc

body_adds : (office : OfficeState) (call : Call) (terms : EntryTerms) (read : Result (List RawItem) Malformed) (e : KeptEntry) → body_outcome office call terms read ≡ adds e → e.seq ≡ length office.history + 1
body_adds office call terms (Ok raws) e is =
    let same = unless_full (is_full office || is_too_much office call.body) (Words LedgerFull) (taken_upload office call terms raws) e is in
    ap (λ a. a.seq) (sym same)
body_adds office call terms (Err fault) e is = cc

place_adds : (office : OfficeState) (call : Call) (terms : EntryTerms) (at : Place) (e : KeptEntry) → place_outcome office call terms at ≡ adds e → e.seq ≡ length office.history + 1
place_adds office call terms unknown_issuer e is = cc
place_adds office call terms (repeat_of answer) e is = cc
place_adds office call terms number_taken e is = cc
place_adds office call terms (ahead next) e is = cc
place_adds office call terms fresh e is = body_adds office call terms (upload call.body) e is

short_adds : (long : Bool) (office : OfficeState) (call : Call) (terms : EntryTerms) (at : Place) (e : KeptEntry) → cond long (stays (Words TooLong)) (place_outcome office call terms at) ≡ adds e
    → e.seq ≡ length office.history + 1
short_adds true office call terms at e is = cc
short_adds false office call terms at e is = place_adds office call terms at e is

upload_adds : (office : OfficeState) (call : Call) (terms : EntryTerms) (e : KeptEntry) → upload_outcome office call terms ≡ adds e → e.seq ≡ length office.history + 1
unfolding upload_outcome
upload_adds office call terms e is = short_adds (nat_lt office.limits.body (length call.body)) office call terms (place office.history call.office call.number call.body) e is

-- ---- requests of entries

-- an entry of one of the kinds was made for the request
abbrev IsOneOf : (one two three : Bool) (a b c request : Request) → Type 0
IsOneOf one two three a b c request =
    ((one ≡ true) × (request ≡ a)) ⊎ ((one ≡ false) × (two ≡ true) × (request ≡ b)) ⊎ ((one ≡ false) × (two ≡ false) × (three ≡ true) × (request ≡ c))

one_of : (one two three : Bool) (a b c request : Request) → cond one (Some a) (cond two (Some b) (cond three (Some c) None)) ≡ Some request → IsOneOf one two three a b c request
one_of true two three a b c request is = inl (refl, (let same : a ≡ request = cc in sym same))
one_of false true three a b c request is = inr (inl (refl, refl, (let same : b ≡ request = cc in sym same)))
one_of false false true a b c request is = inr (inr (refl, refl, refl, (let same : c ≡ request = cc in sym same)))
one_of false false false a b c request is = cc

abbrev call_of : KeptEntry → Call
call_of e = record { office = e.office; number = e.number; body = e.body }

-- the requests that entries of a kind were made for
of_kind : (e : KeptEntry) (request : Request) → request_of e ≡ Some request
    → IsOneOf (e.kind == 1) (e.kind == 2) (e.kind == 3) (Accredit e.office) (Upload (call_of e)) (Publish e.number) request
of_kind e request is = one_of (e.kind == 1) (e.kind == 2) (e.kind == 3) (Accredit e.office) (Upload (call_of e)) (Publish e.number) request is

-- an entry that is next has the next number
pub next-seq : (limits : Limits) (before : History) (e : KeptEntry) → IsNext (office_of limits before) e → e.seq ≡ length before + 1
next-seq limits before e next =
    let office = office_of limits before in
    elim (of_kind e next.0 next.1) [
      | inl a ↦
          let added : outcome_at office (Accredit e.office) (terms_by e.rules before e.moment) ≡ adds e = ap (λ r. outcome_by e.rules office r e.moment) (sym a.1) ∙ next.5 in
          ap (λ x. x.seq) (sym (accredit_adds office e.office (terms_by e.rules before e.moment) (accredited before e.office) e added))
      | inr (inl u) ↦
          let added : outcome_at office (Upload (call_of e)) (terms_by e.rules before e.moment) ≡ adds e = ap (λ r. outcome_by e.rules office r e.moment) (sym u.2) ∙ next.5 in
          upload_adds office (call_of e) (terms_by e.rules before e.moment) e added
      | inr (inr p) ↦
          let added : outcome_at office (Publish e.number) (terms_by e.rules before e.moment) ≡ adds e = ap (λ r. outcome_by e.rules office r e.moment) (sym p.3) ∙ next.5 in
          ap (λ x. x.seq) (sym (publish_adds office e.number (terms_by e.rules before e.moment) (published before e.number) e added).is)
    ]

lei_is : (text : List ℕ) → IsValid text → is_lei text ≡ true
lei_is text valid = ap is_none (fault_of-IsValid text valid)

number_is : (number : ℕ) → IsUploadNumber number → is_number number ≡ true
number_is number is =
    let low = is.0 in
    let high = is.1 in
    grind (arith, nat_tests)

moment_is : (seconds : ℤ) → IsMoment seconds → is_moment seconds ≡ true
moment_is seconds is = grind (arith, ints)

-- a next entry was made for the request that is read from it
pub asked-next : (office : OfficeState) (e : KeptEntry) (next : IsNext office e) → stored_request office.history e ≡ Some next.0
unfolding stored_request
asked-next office e next =
    let of_moment = moment_is e.moment next.3 in
    rw (of_moment, next.4) (elim (of_kind e next.0 next.1) [
      | inl a ↦
          let asked : IsValid e.office = subst IsRequest a.1 next.2 in
          let added : outcome_at office (Accredit e.office) (terms_by e.rules office.history e.moment) ≡ adds e = ap (λ r. outcome_by e.rules office r e.moment) (sym a.1) ∙ next.5 in
          let made = accredit_adds office e.office (terms_by e.rules office.history e.moment) (accredited office.history e.office) e added in
          let none : e.number ≡ 0 = ap (λ x. x.number) (sym made) in
          let empty : e.body ≡ [] = ap (λ x. x.body) (sym made) in
          rw (a.0, lei_is e.office asked, none, empty) (ap Some (sym a.1))
      | inr (inl u) ↦
          let asked : IsRequest (Upload (call_of e)) = subst IsRequest u.2 next.2 in
          rw (u.0, u.1, lei_is e.office asked.0, number_is e.number asked.1) (ap Some (sym u.2))
      | inr (inr p) ↦
          let asked : IsUploadNumber e.number = subst IsRequest p.3 next.2 in
          let added : outcome_at office (Publish e.number) (terms_by e.rules office.history e.moment) ≡ adds e = ap (λ r. outcome_by e.rules office r e.moment) (sym p.3) ∙ next.5 in
          let made = (publish_adds office e.number (terms_by e.rules office.history e.moment) (published office.history e.number) e added).is in
          let none : e.office ≡ [] = ap (λ x. x.office) (sym made) in
          let empty : e.body ≡ [] = ap (λ x. x.body) (sym made) in
          rw (p.0, p.1, p.2, number_is e.number asked, none, empty) (ap Some (sym p.3))
    ])

-- ---- what a replay makes

pub asked-request : (before : History) (e : KeptEntry) (request : Request) → stored_request before e ≡ Some request → request_of e ≡ Some request
unfolding stored_request
asked-request before e request is = by_moment (is_moment e.moment && rules_may_follow before e.rules) is
  where
    of_upload : (b : Bool) → cond b (Some (Upload (call_of e))) None ≡ Some request → Some (Upload (call_of e)) ≡ Some request
    of_upload true found = found
    of_upload false found = cc

    of_accredit : (b : Bool) → cond b (Some (Accredit e.office)) None ≡ Some request → Some (Accredit e.office) ≡ Some request
    of_accredit true found = found
    of_accredit false found = cc

    of_publish : (b : Bool) → cond b (Some (Publish e.number)) None ≡ Some request → Some (Publish e.number) ≡ Some request
    of_publish true found = found
    of_publish false found = cc

    by_kind : (one two three : Bool) → cond one (stored_accreditation e) (cond two (stored_upload e) (cond three (stored_publication e) None)) ≡ Some request
        → cond one (Some (Accredit e.office)) (cond two (Some (Upload (call_of e))) (cond three (Some (Publish e.number)) None)) ≡ Some request
    by_kind true two three found = of_accredit (is_lei e.office && e.number == 0 && length e.body == 0) found
    by_kind false true three found = of_upload (is_lei e.office && is_number e.number) found
    by_kind false false true found = of_publish (length e.office == 0 && is_number e.number && length e.body == 0) found
    by_kind false false false found = found

    by_moment : (b : Bool) → cond b (request_in e) None ≡ Some request → request_of e ≡ Some request
    by_moment true found = by_kind (e.kind == 1) (e.kind == 2) (e.kind == 3) found
    by_moment false found = cc

-- its rules may follow those of the entry before it
pub asked-follows : (before : History) (e : KeptEntry) (request : Request) → stored_request before e ≡ Some request → rules_may_follow before e.rules ≡ true
unfolding stored_request
asked-follows before e request is = by_tests (is_moment e.moment) (rules_may_follow before e.rules) is
  where
    by_tests : (at follows : Bool) → cond (at && follows) (request_in e) None ≡ Some request → follows ≡ true
    by_tests true true found = refl
    by_tests true false found = cc
    by_tests false follows found = cc

same_some : {X : Type 0} (x y : X) → Some x ≡ Some y → x ≡ y
same_some x y is = cc

-- an entry that belongs to no request
pub none-asked : (office : OfficeState) (e : KeptEntry) → stored_request office.history e ≡ None → (IsNext office e → ⊥) × (codes "NOT_AN_ENTRY" ≡ replayed_text office e)
none-asked office e none = (
  λ next. let bad : None ≡ Some next.0 = sym none ∙ asked-next office e next in cc,
  ap (request_text office e) (sym none),
)

-- the request is answered, and adds nothing
pub stays-differs : (office : OfficeState) (e : KeptEntry) (request : Request) (answered : Reply) → stored_request office.history e ≡ Some request → outcome_by e.rules office request e.moment ≡ stays answered
    → (IsNext office e → ⊥) × (reply_words answered ≡ replayed_text office e)
stays-differs office e request answered asked is = (
  λ next.
      let same : request ≡ next.0 = same_some request next.0 (sym asked ∙ asked-next office e next) in
      let bad : stays answered ≡ adds e = sym is ∙ (ap (λ r. outcome_by e.rules office r e.moment) same ∙ next.5) in cc,
  ap expected_text (sym is) ∙ ap (request_text office e) (sym asked),
)

-- it adds another entry
pub adds-differs : (office : OfficeState) (e : KeptEntry) (request : Request) (made : KeptEntry) → stored_request office.history e ≡ Some request → outcome_by e.rules office request e.moment ≡ adds made → (made ≡ e → ⊥)
    → (IsNext office e → ⊥) × (entry_line made ≡ replayed_text office e)
adds-differs office e request made asked is other = (
  λ next.
      let same : request ≡ next.0 = same_some request next.0 (sym asked ∙ asked-next office e next) in
      let both : adds made ≡ adds e = sym is ∙ (ap (λ r. outcome_by e.rules office r e.moment) same ∙ next.5) in
      other (let one : made ≡ e = cc in one),
  ap expected_text (sym is) ∙ ap (request_text office e) (sym asked),
)

-- it adds this entry
pub adds-next : (office : OfficeState) (e : KeptEntry) (request : Request) (made : KeptEntry) → stored_request office.history e ≡ Some request → outcome_by e.rules office request e.moment ≡ adds made → made ≡ e
    → IsRequest request → IsMoment e.moment → IsNext office e
adds-next office e request made asked is same of_request of_moment = (
  request,
  asked-request office.history e request asked,
  of_request,
  of_moment,
  asked-follows office.history e request asked,
  is ∙ ap adds same,
)
