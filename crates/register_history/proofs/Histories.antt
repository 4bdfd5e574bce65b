-- Histories that grow by an entry: the table after them, and that they stay legal.
use Rattle.std.proofs.Common.{◌≡◌, ◌≤◌, ℕ, ℤ, List, [], ◌∷◌, ◌++◌, ◌-◌, Bool, true, false, cond, nat_le, ◌&&◌, ◌||◌, ◌==◌, is_some, ltb, int_lt, length, Option, Some, None, option_map, Result, Ok, Err, refl, sym, ap, ◌∙◌, subst, append_assoc, append-nil, arith, length-append, inl, inr}
use Rattle.std.proofs.Math.Seq.{get_or-append_seam}
use Rattle.std.proofs.lemmas.Bool.{leb-true}
use Rattle.std.proofs.lemmas.Bool.Decides.{nat_tests}
use Rattle.std.proofs.lemmas.Option.{slice_get-get_or}
use Rattle.std.proofs.lemmas.List.Sums.{fold-append}
use Rattle.std.specs.Int.{int_max}
use Rattle.lei_values.specs.declared.entry.KeptEntry.{KeptEntry}
use Rattle.upload_format.specs.Bodies.{upload}
use Rattle.register_words.specs.declared.malformed.Malformed.{Malformed}
use Rattle.lei_records.specs.Rows.{Row}
use Rattle.lei_records.specs.Tables.{Table, row_at}
use Rattle.item_fields.specs.declared.item.RawItem.{RawItem}
use Rattle.lei_shapes.specs.Moment.{IsMoment}
use Rattle.register_words.specs.declared.sheets.Form.{Form}
use Rattle.register_words.specs.declared.sheets.Sheet.{Sheet}
use Rattle.copy_forms.specs.Trails.{Publication, Trail}
use Rattle.golden_shelf.specs.declared.fault.ShelfFault.{ShelfFault}
use Rattle.golden_shelf.specs.Bases.{base_in, trail_moments}
use Rattle.golden_shelf.specs.Shelves.{latest}
use Rattle.register_table.specs.Held.{no_rows}
use Rattle.register_words.specs.declared.limits.Limits.{Limits}
use Rattle.register_words.specs.declared.request.Call.{Call}
use Rattle.register_words.specs.declared.request.Request.{Request}
use Rattle.register_words.specs.declared.request.Request.TheVariants.{Accredit, Copy, Delta, Kept, Publish, Show, Status, Upload}
use Rattle.register_words.specs.declared.reply.Refusal.TheVariants.{IssuerUnknown, LedgerFull, NumberAhead, TooLong}
use Rattle.register_words.specs.declared.reply.Reply.{Reply}
use Rattle.register_words.specs.declared.reply.Reply.TheVariants.{Words}
use Rattle.upload_ledger.specs.History.{History, accredited, kept, Place, unknown_issuer, repeat_of, number_taken, ahead, fresh, place, published, last_entry, later, stamp}
use Rattle.register_history.specs.Publications.{trail}
use Rattle.register_history.specs.Register.{after, after_entry}
use Rattle.register_history.specs.Replies.{stays, adds, newest_rules, outcome, outcome_at, outcome_by, terms_by, delta_to_latest, copy_of_latest, show_outcome, accredit_outcome, answer_outcome, is_full, is_too_much, next_publication, publication_entry, publish_outcome, status_outcome, upload_outcome, place_outcome, body_outcome, accreditation, taken_upload, history_after, next, next_of, StepOf}
use Rattle.register_history.specs.Legal.{request_of, IsNext, LegalAfter, Legal, last_rules, rules_may_follow}
use Rattle.register_words.specs.Requests.{IsRequest}
use Rattle.register_history.specs.State.{OfficeState, new_office, office_of}
use Rattle.register_history.specs.declared.terms.EntryTerms.{EntryTerms}

-- ---- the table

pub after-push : (limits : Limits) (history : History) (e : KeptEntry) → after limits (history ++ e ∷ []) ≡ after_entry limits (after limits history) e
unfolding after
after-push limits history e = fold-append (after_entry limits) no_rows history (e ∷ [])

-- ---- legality

LegalAfter-push : (limits : Limits) (before rest : History) (e : KeptEntry) → LegalAfter limits before rest → IsNext (office_of limits (before ++ rest)) e → LegalAfter limits before (rest ++ e ∷ [])
LegalAfter-push limits before [] e legal is = (let P : History → Type 0 = λ h. IsNext (office_of limits h) e in subst P (append-nil before) is, tt)
LegalAfter-push limits before (first ∷ rest) e legal is =
    (legal.0, LegalAfter-push limits (before ++ first ∷ []) rest e legal.1 (let P : History → Type 0 = λ h. IsNext (office_of limits h) e in subst P (sym (append_assoc before (first ∷ []) rest)) is))

pub Legal-push : (limits : Limits) (history : History) (e : KeptEntry) → Legal (office_of limits history) → IsNext (office_of limits history) e → Legal (office_of limits (history ++ e ∷ []))
unfolding Legal
Legal-push limits history e legal is = LegalAfter-push limits [] history e legal is

pub Legal-opened : (limits : Limits) → Legal (new_office limits)
unfolding Legal
Legal-opened limits = tt

-- what an outcome adds was made for its request, by its rules and at its moment
pub record IsAdded (request : Request) (terms : EntryTerms) (e : KeptEntry) : Type 0 where
  pub for_request : request_of e ≡ Some request
  pub at_moment : e.moment ≡ terms.moment
  pub of_rules : e.rules ≡ terms.rules

-- what is added if there is room
unless_full : (full : Bool) (refused : Reply) (a e : KeptEntry) → cond full (stays refused) (adds a) ≡ adds e → a ≡ e
unless_full true refused a e is = cc
unless_full false refused a e is = cc

accredit_adds : (office : OfficeState) (issuer : List ℕ) (terms : EntryTerms) (found : Option (List ℕ)) (e : KeptEntry) → accredit_outcome office issuer terms found ≡ adds e → IsAdded (Accredit issuer) terms e
accredit_adds office issuer terms None e is =
    let same : accreditation office.history issuer terms ≡ e = unless_full (is_full office) (Words LedgerFull) (accreditation office.history issuer terms) e is in
    record { for_request = ap request_of (sym same); at_moment = ap (λ a. a.moment) (sym same); of_rules = ap (λ a. a.rules) (sym same) }
accredit_adds office issuer terms (Some text) e is = cc

body_adds : (office : OfficeState) (call : Call) (terms : EntryTerms) (read : Result (List RawItem) Malformed) (e : KeptEntry) → body_outcome office call terms read ≡ adds e → IsAdded (Upload call) terms e
body_adds office call terms (Ok raws) e is =
    let same : taken_upload office call terms raws ≡ e = unless_full (is_full office || is_too_much office call.body) (Words LedgerFull) (taken_upload office call terms raws) e is in
    record { for_request = ap request_of (sym same); at_moment = ap (λ a. a.moment) (sym same); of_rules = ap (λ a. a.rules) (sym same) }
body_adds office call terms (Err fault) e is = cc

place_adds : (office : OfficeState) (call : Call) (terms : EntryTerms) (at : Place) (e : KeptEntry) → place_outcome office call terms at ≡ adds e → (at ≡ fresh) × IsAdded (Upload call) terms e
place_adds office call terms unknown_issuer e is = cc
place_adds office call terms (repeat_of answer) e is = cc
place_adds office call terms number_taken e is = cc
place_adds office call terms (ahead next) e is = cc
place_adds office call terms fresh e is = (refl, body_adds office call terms (upload call.body) e is)

short_adds : (long : Bool) (office : OfficeState) (call : Call) (terms : EntryTerms) (at : Place) (e : KeptEntry) → cond long (stays (Words TooLong)) (place_outcome office call terms at) ≡ adds e → (at ≡ fresh) × IsAdded (Upload call) terms e
short_adds true office call terms at e is = cc
short_adds false office call terms at e is = place_adds office call terms at e is

pub upload_adds : (office : OfficeState) (call : Call) (terms : EntryTerms) (e : KeptEntry) → upload_outcome office call terms ≡ adds e → (place office.history call.office call.number call.body ≡ fresh) × IsAdded (Upload call) terms e
unfolding upload_outcome
upload_adds office call terms e is = short_adds (ltb office.limits.body (length call.body)) office call terms (place office.history call.office call.number call.body) e is

next_adds : (next full : Bool) (early : Reply) (a e : KeptEntry) → cond next (cond full (stays (Words LedgerFull)) (adds a)) (stays early) ≡ adds e → (next ≡ true) × (full ≡ false) × (a ≡ e)
next_adds true true early a e is = cc
next_adds true false early a e is = (refl, refl, (let same : a ≡ e = cc in same))
next_adds false full early a e is = cc

-- a publication that is added has the next number
pub record IsPublished (office : OfficeState) (number : ℕ) (terms : EntryTerms) (found : Option (List ℕ)) (e : KeptEntry) : Type 0 where
  pub made_none : found ≡ None
  pub next : (number == next_publication office.history) ≡ true
  pub room : is_full office ≡ false
  pub is : publication_entry office number terms ≡ e

pub publish_adds : (office : OfficeState) (number : ℕ) (terms : EntryTerms) (found : Option (List ℕ)) (e : KeptEntry) → publish_outcome office number terms found ≡ adds e → IsPublished office number terms found e
publish_adds office number terms None e is =
    let next = next_adds (number == next_publication office.history) (is_full office) (Words (NumberAhead (next_publication office.history))) (publication_entry office number terms) e is in
    record { made_none = refl; next = next.0; room = next.1; is = next.2 }
publish_adds office number terms (Some text) e is = cc

publication-added : (office : OfficeState) (number : ℕ) (terms : EntryTerms) (found : Option (List ℕ)) (e : KeptEntry) → publish_outcome office number terms found ≡ adds e → IsAdded (Publish number) terms e
publication-added office number terms found e is =
    let same = (publish_adds office number terms found e is).is in
    record { for_request = ap request_of (sym same); at_moment = ap (λ a. a.moment) (sym same); of_rules = ap (λ a. a.rules) (sym same) }

copy_adds_none : (sheet : Sheet) (form : Form) (number : ℕ) (found : Option Publication) (e : KeptEntry) → copy_of_latest sheet form number found ≡ adds e → ⊥
copy_adds_none sheet form number None e is = cc
copy_adds_none sheet form number (Some publication) e is = cc

delta_adds_none : (sheet : Sheet) (form : Form) (made : Trail) (found : Result ℕ ShelfFault) (last : Option Publication) (e : KeptEntry) → delta_to_latest sheet form made found last ≡ adds e → ⊥
delta_adds_none sheet form made (Err fault) last e is = cc
delta_adds_none sheet form made (Ok from) None e is = cc
delta_adds_none sheet form made (Ok from) (Some publication) e is = cc

show_adds_none : (found : Option Row) (e : KeptEntry) → show_outcome found ≡ adds e → ⊥
show_adds_none None e is = cc
show_adds_none (Some row) e is = cc

kept_adds_none : (known : Bool) (found : Option (List ℕ)) (e : KeptEntry) → cond known (answer_outcome found) (stays (Words IssuerUnknown)) ≡ adds e → ⊥
kept_adds_none false found e is = cc
kept_adds_none true None e is = cc
kept_adds_none true (Some text) e is = cc

status_adds_none : (history : History) (table : Table) (e : KeptEntry) → status_outcome history table ≡ adds e → ⊥
status_adds_none history table e is = cc

pub request_adds : (office : OfficeState) (request : Request) (terms : EntryTerms) (e : KeptEntry) → outcome_at office request terms ≡ adds e → IsAdded request terms e
request_adds office (Accredit lei) terms e is = accredit_adds office lei terms (accredited office.history lei) e is
request_adds office (Upload call) terms e is = (upload_adds office call terms e is).1
request_adds office (Kept lei number) terms e is = absurd (kept_adds_none (is_some (accredited office.history lei)) (kept office.history lei number) e is)
request_adds office (Publish number) terms e is = publication-added office number terms (published office.history number) e is
request_adds office (Copy sheet form) terms e is = absurd (copy_adds_none sheet form (length (trail office)) (latest (trail office)) e is)
request_adds office (Delta base sheet form) terms e is = absurd (delta_adds_none sheet form (trail office) (base_in (trail_moments (trail office)) base) (latest (trail office)) e is)
request_adds office Status terms e is = absurd (status_adds_none office.history (after office.limits office.history) e is)
request_adds office (Show lei) terms e is = absurd (show_adds_none (row_at (after office.limits office.history) lei) e is)

both_true : (a b : Bool) → a && b ≡ true → (a ≡ true) × (b ≡ true)
both_true true true is = (refl, refl)
both_true true false is = cc
both_true false b is = cc

-- rules that may follow exist, and aren't lower than those of the last entry
pub record FollowWithin (history : History) (rules : ℕ) : Type 0 where
  pub least : 1 ≤ rules
  pub most : rules ≤ newest_rules
  pub rising : last_rules (last_entry history) ≤ rules

pub follows-within : (history : History) (rules : ℕ) → rules_may_follow history rules ≡ true → FollowWithin history rules
follows-within history rules is =
    let last = last_rules (last_entry history) in
    let all = both_true (nat_le 1 rules && nat_le rules newest_rules) (nat_le last rules) is in
    let front = both_true (nat_le 1 rules) (nat_le rules newest_rules) all.0 in
    record { least = leb-true 1 rules front.0; most = leb-true rules newest_rules front.1; rising = leb-true last rules all.1 }

-- ---- moments

pub last_entry-push : (history : History) (e : KeptEntry) → last_entry (history ++ e ∷ []) ≡ Some e
last_entry-push history e =
    let at : length (history ++ e ∷ []) - 1 ≡ length history = omega (arith, length-append history (e ∷ [])) in
    rw at (slice_get-get_or (history ++ e ∷ []) (length history) e (omega (arith, length-append history (e ∷ []))) ∙ ap Some (get_or-append_seam history e [] e))

-- the last entry, if there is one, has a moment
abbrev HasMoment : Option KeptEntry → Type 0
HasMoment None = Unit {0}
HasMoment (Some e) = IsMoment e.moment

last-has_moment : (limits : Limits) (before rest : History) → LegalAfter limits before rest → HasMoment (last_entry before) → HasMoment (last_entry (before ++ rest))
last-has_moment limits before [] legal has = (let P : History → Type 0 = λ h. HasMoment (last_entry h) in subst P (sym (append-nil before)) has)
last-has_moment limits before (e ∷ rest) legal has =
    let M : Option KeptEntry → Type 0 = λ o. HasMoment o in
    let P : History → Type 0 = λ h. HasMoment (last_entry h) in
    subst P (append_assoc before (e ∷ []) rest) (last-has_moment limits (before ++ e ∷ []) rest legal.1 (subst M (sym (last_entry-push before e)) legal.0.3))

-- the moment of the last entry, if each moment is in the range
pub last_found : (limits : Limits) (history : History) (e : KeptEntry) (found : Option ℤ) → Legal (office_of limits history) → Some e ≡ last_entry history
    → (IsMoment e.moment → found ≡ Some e.moment) → found ≡ option_map (λ e. e.moment) (last_entry history)
unfolding Legal
last_found limits history e found legal is finds =
    let has : HasMoment (last_entry history) = last-has_moment limits [] history legal tt in
    finds (subst HasMoment (sym is) has) ∙ ap (option_map (λ e. e.moment)) is

greater-is_moment : (b : Bool) (x y : ℤ) → IsMoment x → IsMoment y → IsMoment (cond b x y)
greater-is_moment true x y of_x of_y = of_x
greater-is_moment false x y of_x of_y = of_y

later-is_moment : (o : Option KeptEntry) (moment : ℤ) → HasMoment o → IsMoment moment → IsMoment (later o moment)
later-is_moment None moment has is = is
later-is_moment (Some e) moment has is = greater-is_moment (int_lt moment e.moment) e.moment moment has is

pub stamp-is_moment : (limits : Limits) (history : History) (moment : ℤ) → Legal (office_of limits history) → IsMoment moment → IsMoment (stamp history moment)
unfolding Legal
stamp-is_moment limits history moment legal is = later-is_moment (last_entry history) moment (last-has_moment limits [] history legal tt) is

-- the stamp of a stamp is that stamp
greater-same : (b : Bool) (x : ℤ) → cond b x x ≡ x
greater-same true x = refl
greater-same false x = refl

greater-again : (x y : ℤ) (b : Bool) → int_lt y x ≡ b → int_max x (cond b x y) ≡ cond b x y
greater-again x y true is = greater-same (int_lt x x) x
greater-again x y false is = ap (λ b. cond b x y) is

later-again : (o : Option KeptEntry) (moment : ℤ) → later o (later o moment) ≡ later o moment
later-again None moment = refl
later-again (Some e) moment = greater-again e.moment moment (int_lt moment e.moment) refl

abbrev terms_of : ℕ → ℤ → EntryTerms
terms_of rules moment = record { rules = rules; moment = moment }

outcome-again : (rules : ℕ) (office : OfficeState) (request : Request) (moment : ℤ) → outcome_by rules office request (stamp office.history moment) ≡ outcome_by rules office request moment
outcome-again rules office request moment = ap (λ m. outcome_at office request (terms_of rules m)) (later-again (last_entry office.history) moment)

-- ---- rules

-- the rules of the last entry are at most the newest ones
last-rules : (limits : Limits) (before rest : History) → LegalAfter limits before rest → last_rules (last_entry before) ≤ newest_rules → last_rules (last_entry (before ++ rest)) ≤ newest_rules
last-rules limits before [] legal most = (let P : History → Type 0 = λ h. last_rules (last_entry h) ≤ newest_rules in subst P (sym (append-nil before)) most)
last-rules limits before (e ∷ rest) legal most =
    let P : History → Type 0 = λ h. last_rules (last_entry h) ≤ newest_rules in
    let M : Option KeptEntry → Type 0 = λ o. last_rules o ≤ newest_rules in
    subst P (append_assoc before (e ∷ []) rest) (last-rules limits (before ++ e ∷ []) rest legal.1 (subst M (sym (last_entry-push before e)) (follows-within before e.rules legal.0.4).most))

-- so the newest rules may follow
pub newest-follows : (limits : Limits) (history : History) → Legal (office_of limits history) → rules_may_follow history newest_rules ≡ true
unfolding Legal
newest-follows limits history legal =
    let most = last-rules limits [] history legal (omega arith) in
    let lower : nat_le (last_rules (last_entry history)) newest_rules ≡ true = grind (arith, nat_tests) in
    rw lower refl

-- a request leads from a legal history to a legal one
pub added-is_next : (limits : Limits) (history : History) (rules : ℕ) (request : Request) (moment : ℤ) (e : KeptEntry) → IsRequest request → IsMoment moment
    → rules_may_follow history rules ≡ true → Legal (office_of limits history) → outcome_by rules (office_of limits history) request moment ≡ adds e → IsNext (office_of limits history) e
added-is_next limits history rules request moment e asked is follows legal comes =
    let office = office_of limits history in
    let added = request_adds office request (terms_by rules history moment) e comes in
    let M : ℤ → Type 0 = λ m. IsMoment m in (
      request,
      added.for_request,
      asked,
      subst M (sym added.at_moment) (stamp-is_moment limits history moment legal is),
      ap (rules_may_follow history) added.of_rules ∙ follows,
      ap (λ r. outcome_by r office request e.moment) added.of_rules ∙ (ap (outcome_by rules office request) added.at_moment ∙ (outcome-again rules office request moment ∙ comes)),
    )

pub Legal-next : (limits : Limits) (history : History) (request : Request) (moment : ℤ) → IsRequest request → IsMoment moment → Legal (office_of limits history) → Legal (next (office_of limits history) request moment)
Legal-next limits history request moment asked is legal =
    elim (outcome (office_of limits history) request moment) as (λ o. outcome (office_of limits history) request moment ≡ o → Legal (office_of limits (history_after history o))) [
      | stays answered ↦ λ _. legal
      | adds e ↦ λ comes. Legal-push limits history e legal (added-is_next limits history newest_rules request moment e asked is (newest-follows limits history legal) legal comes)
    ] refl

-- a part of an office is given the stamp
Legal-same : (limits : Limits) (history new : History) → Legal (office_of limits history) → office_of limits new ≡ office_of limits history → Legal (office_of limits new)
Legal-same limits history new legal same = subst Legal (sym same) legal

pub Legal-step : (limits : Limits) (history : History) (request : Request) (moment : ℤ) (at : EntryTerms) (answered : Reply) (new : History) → IsRequest request → IsMoment moment → at ≡ terms_by newest_rules history moment
    → Legal (office_of limits history) → StepOf request (outcome_at (office_of limits history) request at) (office_of limits history) answered (office_of limits new) → Legal (office_of limits new)
Legal-step limits history request moment at answered new asked is stamped legal (inl step) =
    let office = office_of limits history in
    subst Legal (sym (step.1 ∙ ap (λ m. next_of office (outcome_at office request m)) stamped)) (Legal-next limits history request moment asked is legal)
Legal-step limits history request moment at answered new asked is stamped legal (inr (inl wanting)) = Legal-same limits history new legal wanting.1
Legal-step limits history request moment at answered new asked is stamped legal (inr (inr failing)) = Legal-same limits history new legal failing.1
