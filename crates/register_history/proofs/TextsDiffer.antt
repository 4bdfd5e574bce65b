-- The two texts of a damaged entry differ.
use Rattle.std.proofs.Common.{◌≡◌, ℕ, ◌+◌, ◌<◌, ◌==◌, ◌&&◌, Bool, true, false, cond, codes, List, [], ◌∷◌, length, is_none, Option, Some, None, inl, inr, refl, sym, ap, subst, ◌∙◌, arith}
use Rattle.std.proofs.lemmas.Bool.{eqb-true}
use Rattle.std.proofs.lemmas.Bool.Decides.{nat_tests}
use Rattle.std.proofs.lemmas.Int.{ints}
use Rattle.lei_code.specs.Code.{IsValid}
use Rattle.lei_code.specs.Fault.{fault_of}
use Rattle.lei_code.specs.declared.fault.LeiFault.{LeiFault}
use Rattle.lei_code.proofs.Faults.{IsValid-from_fault_of}
use Rattle.lei_shapes.specs.Moment.{IsMoment, is_moment}
use Rattle.lei_values.specs.declared.entry.KeptEntry.{KeptEntry}
use Rattle.upload_ledger.specs.History.{History}
use Rattle.register_words.specs.declared.limits.Limits.{Limits}
use Rattle.register_words.specs.declared.request.Request.{Request}
use Rattle.register_words.specs.declared.request.Request.TheVariants.{Accredit, Publish, Upload}
use Rattle.register_history.specs.Damage.{EntryTextsDiffer, stored_request, entry_line, is_lei, is_number, expected_text, request_in, request_text, replayed_text}
use Rattle.register_history.specs.Legal.{IsNext, Legal, rules_may_follow}
use Rattle.register_words.specs.Requests.{IsRequest, IsUploadNumber}
use Rattle.register_history.specs.Replies.{adds, outcome_by, stays, terms_by}
use Rattle.register_history.specs.State.{office_of}
use Rattle.register_words.specs.Refusals.{reply_words}
use Rattle.register_history.proofs.AskedFor.{adds-next, asked-follows, asked-request}
use Rattle.register_history.proofs.Beginnings.{Comes, IsApart, IsFor, IsMade, legal-apart, request-comes, request-taken}
use Rattle.register_history.proofs.EntryLines.{first, line-begins, line-tells}
use Rattle.register_history.proofs.Histories.{follows-within, stamp-is_moment}

-- ---- the request that is read from a stored entry

-- the request is one, and the entry has what it asks
record IsAskedBy (request : Request) (e : KeptEntry) : Type 0 where
  own : IsFor request e
  valid : IsRequest request
  in_range : IsMoment e.moment

both : (a b : Bool) → a && b ≡ true → (a ≡ true) × (b ≡ true)
both true true is = (refl, refl)
both true false is = cc
both false b is = cc

none_is : (found : Option LeiFault) → is_none found ≡ true → found ≡ None
none_is None is = refl
none_is (Some fault) is = cc

lei-valid : (text : List ℕ) → is_lei text ≡ true → IsValid text
lei-valid text is = IsValid-from_fault_of text (none_is (fault_of text) is)

number-valid : (number : ℕ) → is_number number ≡ true → IsUploadNumber number
number-valid number is = grind (arith, nat_tests)

nothing_in : (body : List ℕ) → length body == 0 ≡ true → body ≡ []
nothing_in [] is = refl
nothing_in (b ∷ body) is = (let none = eqb-true (length (b ∷ body)) 0 is in absurd (omega (arith, none)))

of_accreditation : (e : KeptEntry) (request : Request) (b : Bool) → IsMoment e.moment → e.kind ≡ 1 → is_lei e.office && e.number == 0 && length e.body == 0 ≡ b
    → cond b (Some (Accredit e.office)) None ≡ Some request → IsAskedBy request e
of_accreditation e request true in_range kind tests is =
    let this : Accredit e.office ≡ request = cc in
    let all = both (is_lei e.office && e.number == 0) (length e.body == 0) tests in
    let front = both (is_lei e.office) (e.number == 0) all.0 in
    subst (λ r. IsAskedBy r e) this
    (record { own = (kind, refl, eqb-true e.number 0 front.1, nothing_in e.body all.1); valid = lei-valid e.office front.0; in_range = in_range })
of_accreditation e request false in_range kind tests is = cc

of_upload : (e : KeptEntry) (request : Request) (b : Bool) → IsMoment e.moment → e.kind ≡ 2 → is_lei e.office && is_number e.number ≡ b
    → cond b (Some (Upload (record { office = e.office; number = e.number; body = e.body }))) None ≡ Some request → IsAskedBy request e
of_upload e request true in_range kind tests is =
    let this : Upload (record { office = e.office; number = e.number; body = e.body }) ≡ request = cc in
    let parts = both (is_lei e.office) (is_number e.number) tests in
    subst (λ r. IsAskedBy r e) this
    (record { own = (kind, refl, refl, refl); valid = (lei-valid e.office parts.0, number-valid e.number parts.1); in_range = in_range })
of_upload e request false in_range kind tests is = cc

of_publication : (e : KeptEntry) (request : Request) (b : Bool) → IsMoment e.moment → e.kind ≡ 3 → length e.office == 0 && is_number e.number && length e.body == 0 ≡ b
    → cond b (Some (Publish e.number)) None ≡ Some request → IsAskedBy request e
of_publication e request true in_range kind tests is =
    let this : Publish e.number ≡ request = cc in
    let all = both (length e.office == 0 && is_number e.number) (length e.body == 0) tests in
    let front = both (length e.office == 0) (is_number e.number) all.0 in
    subst (λ r. IsAskedBy r e) this
    (record { own = (kind, nothing_in e.office front.0, refl, nothing_in e.body all.1); valid = number-valid e.number front.1; in_range = in_range })
of_publication e request false in_range kind tests is = cc

of_stored : (before : History) (e : KeptEntry) (request : Request) → stored_request before e ≡ Some request → IsAskedBy request e
unfolding stored_request
of_stored before e request is = by_moment (is_moment e.moment) (rules_may_follow before e.rules) refl is
  where
    by_kind : IsMoment e.moment → (one two three : Bool) → e.kind == 1 ≡ one → e.kind == 2 ≡ two → e.kind == 3 ≡ three
        → cond one (cond (is_lei e.office && e.number == 0 && length e.body == 0) (Some (Accredit e.office)) None)
        (cond two (cond (is_lei e.office && is_number e.number) (Some (Upload (record { office = e.office; number = e.number; body = e.body }))) None)
        (cond three (cond (length e.office == 0 && is_number e.number && length e.body == 0) (Some (Publish e.number)) None) None)) ≡ Some request
        → IsAskedBy request e
    by_kind in_range true two three of_one of_two of_three asked = of_accreditation e request (is_lei e.office && e.number == 0 && length e.body == 0) in_range (eqb-true e.kind 1 of_one) refl asked
    by_kind in_range false true three of_one of_two of_three asked = of_upload e request (is_lei e.office && is_number e.number) in_range (eqb-true e.kind 2 of_two) refl asked
    by_kind in_range false false true of_one of_two of_three asked = of_publication e request (length e.office == 0 && is_number e.number && length e.body == 0) in_range (eqb-true e.kind 3 of_three) refl asked
    by_kind in_range false false false of_one of_two of_three asked = cc

    by_moment : (at follows : Bool) → is_moment e.moment ≡ at → cond (at && follows) (request_in e) None ≡ Some request → IsAskedBy request e
    by_moment true false in_range asked = cc
    by_moment true true in_range asked = by_kind (grind (arith, ints)) (e.kind == 1) (e.kind == 2) (e.kind == 3) refl refl refl asked
    by_moment false follows in_range asked = cc

-- two entries with what one request asks
own-same : (request : Request) (e f : KeptEntry) → IsFor request e → IsFor request f → (e.kind ≡ f.kind) × (e.office ≡ f.office) × (e.number ≡ f.number) × (e.body ≡ f.body)
own-same (Accredit issuer) e f of_e of_f = (of_e.0 ∙ sym of_f.0, of_e.1 ∙ sym of_f.1, of_e.2 ∙ sym of_f.2, of_e.3 ∙ sym of_f.3)
own-same (Upload call) e f of_e of_f = (of_e.0 ∙ sym of_f.0, of_e.1 ∙ sym of_f.1, of_e.2 ∙ sym of_f.2, of_e.3 ∙ sym of_f.3)
own-same (Publish number) e f of_e of_f = (of_e.0 ∙ sym of_f.0, of_e.1 ∙ sym of_f.1, of_e.2 ∙ sym of_f.2, of_e.3 ∙ sym of_f.3)
own-same request e f of_e of_f = absurd of_e

-- ---- a line and what the replay makes

-- a line isn't a text whose first byte is greater than the digits
line-apart : (e : KeptEntry) (text : List ℕ) → IsApart text → entry_line e ≡ text → ⊥
line-apart e text apart same =
    let begins = line-begins e in
    let one : first (entry_line e) ≡ first text = ap first same in
    omega (arith, begins.1, one, apart)

-- what is made for the request of a stored entry and has its line is that entry
made-is : (limits : Limits) (before : History) (e made : KeptEntry) (request : Request) → Legal (office_of limits before) → e.seq ≡ length before + 1 → IsAskedBy request e
    → rules_may_follow before e.rules ≡ true → IsMade (office_of limits before) request (terms_by e.rules before e.moment) made → entry_line e ≡ entry_line made → made ≡ e
made-is limits before e made request legal number asked follows is same =
    let parts = own-same request e made asked.own is.own in
    let stamped : IsMoment made.moment = subst IsMoment (sym is.at_moment) (stamp-is_moment limits before e.moment legal asked.in_range) in
    let most = (follows-within before e.rules follows).most in
    let small : made.rules < 10 = (let own = is.of_rules in omega (arith, most, own)) in
    line-tells e made (number ∙ sym is.seq) parts.0 parts.1 parts.2 parts.3 asked.in_range stamped small same

request-differs : (limits : Limits) (before : History) (e : KeptEntry) (request : Request) → Legal (office_of limits before) → e.seq ≡ length before + 1 → (IsNext (office_of limits before) e → ⊥)
    → stored_request before e ≡ Some request → entry_line e ≡ expected_text (outcome_by e.rules (office_of limits before) request e.moment) → ⊥
request-differs limits before e request legal number never asked same =
    let office = office_of limits before in
    let terms = terms_by e.rules before e.moment in
    let stored = of_stored before e request asked in
    let comes = request-comes office request terms (legal-apart limits before legal) (request-taken e request (asked-request before e request asked)) in
    elim (outcome_by e.rules office request e.moment) as (λ o. outcome_by e.rules office request e.moment ≡ o → entry_line e ≡ expected_text o → ⊥) [
      | stays reply ↦ λ is line. line-apart e (reply_words reply) (subst (Comes office request terms) is comes) line
      | adds made ↦ λ is line.
          let this = made-is limits before e made request legal number stored (asked-follows before e request asked) (subst (Comes office request terms) is comes) line in
          never (adds-next office e request made asked is this stored.valid stored.in_range)
    ] refl same

entry-differs : (limits : Limits) (before : History) (e : KeptEntry) → Legal (office_of limits before) → e.seq ≡ length before + 1 → (IsNext (office_of limits before) e → ⊥)
    → entry_line e ≡ replayed_text (office_of limits before) e → ⊥
entry-differs limits before e legal number never same =
    elim (stored_request before e) as (λ o. stored_request before e ≡ o → entry_line e ≡ request_text (office_of limits before) e o → ⊥) [
      | None ↦ λ none line. line-apart e (codes "NOT_AN_ENTRY") (omega arith) line
      | Some request ↦ λ asked line. request-differs limits before e request legal number never asked line
    ] refl same

none-apart : codes "none" ≡ codes "NOT_AN_ENTRY" → ⊥
none-apart same = (let one : 110 ≡ 78 = ap first same in omega (arith, one))

pub texts-differ : (limits : Limits) (entries : History) → EntryTextsDiffer limits entries
texts-differ limits entries damage is same = elim is.differs [
  | inl other ↦
      let damage_is = other.2 in
      entry-differs limits is.before is.next is.legal other.0 other.1 (ap (λ d. d.kept) (sym damage_is) ∙ same ∙ ap (λ d. d.replayed) damage_is)
  | inr missing ↦
      let damage_is = missing.1 in
      none-apart (ap (λ d. d.kept) (sym damage_is) ∙ same ∙ ap (λ d. d.replayed) damage_is)
]
