-- The order of a legal history: its moments, and the numbers of each office's uploads.
use Rattle.std.proofs.Common.{◌≡◌, ◌⊎◌, ℕ, ◌+◌, ◌-◌, ◌==◌, ltb, leb, ℤ, ◌≤ℤ◌, int_lt, List, [], ◌∷◌, ◌++◌, length, slice_get, bytes_eq, Bool, true, false, cond, ◌&&◌, is_some, Option, Some, None, inl, inr, refl, sym, ap, ◌∙◌, subst, append_assoc, append-nil, arith, length-append, T, not, get_or}
use Rattle.std.specs.Int.Signed.{≤ℤ_refl, lt_z_no}
use Rattle.std.proofs.Math.Seq.{get_or-append_seam}
use Rattle.std.proofs.lemmas.Bool.{eqb-true, ltb-false}
use Rattle.std.proofs.lemmas.Bool.Decides.{eqb_tells, leb_tells}
use Rattle.std.proofs.lemmas.List.{get_or_append_left}
use Rattle.std.proofs.lemmas.List.Elements.{filter-append}
use Rattle.std.proofs.lemmas.Option.{get_or_from_slice_get, slice_get-get_or, slice_get_past, slice_get_within}
use Rattle.std.proofs.lemmas.Slice.Eq.{bytes_eq-Decides}
use Rattle.std.specs.Int.{int_max}
use Rattle.lei_values.specs.declared.entry.KeptEntry.{KeptEntry}
use Rattle.register_words.specs.declared.limits.Limits.{Limits}
use Rattle.register_words.specs.declared.request.Call.{Call}
use Rattle.register_words.specs.declared.request.Request.TheVariants.{Upload}
use Rattle.upload_ledger.specs.History.{History, accredited, ahead, fresh, is_upload_of, last, later, place, place_of_taken, repeat_of, number_taken, unknown_issuer, upload_at, uploads}
use Rattle.register_history.specs.Replies.{outcome_by, terms_by}
use Rattle.register_history.specs.Legal.{IsNext, LegalAfter, Legal, MomentsNeverFall, UploadsAreNumbered, request_of}
use Rattle.register_history.specs.State.{OfficeState, office_of}
use Rattle.register_history.proofs.Histories.{last_entry-push, request_adds, upload_adds}

-- ---- moments

-- each entry is next after those before it
pub next_at : (limits : Limits) (before front after : History) (e : KeptEntry) → LegalAfter limits before (front ++ e ∷ after) → IsNext (office_of limits (before ++ front)) e
next_at limits before [] after e legal = (let P : History → Type 0 = λ h. IsNext (office_of limits h) e in subst P (sym (append-nil before)) legal.0)
next_at limits before (first ∷ front) after e legal =
    (let P : History → Type 0 = λ h. IsNext (office_of limits h) e in subst P (append_assoc before (first ∷ []) front) (next_at limits (before ++ first ∷ []) front after e legal.1))

greater-is_above : (x y : ℤ) → x ≤ℤ int_max x y
greater-is_above x y = by_test (int_lt y x) refl
  where
    by_test : (b : Bool) → int_lt y x ≡ b → x ≤ℤ cond b x y
    by_test true is = ≤ℤ_refl x
    by_test false is = (let N : Bool → Type 0 = λ b. T (not b) in lt_z_no (subst N (sym is) tt))

pub never_fall : (office : OfficeState) → Legal office → MomentsNeverFall office.history
unfolding Legal
never_fall office legal before after first second is =
    let P : History → Type 0 = λ h. LegalAfter office.limits [] h in
    let next = next_at office.limits [] (before ++ first ∷ []) after second (subst P (is ∙ sym (append_assoc before (first ∷ []) (second ∷ after))) legal) in
    let stamped : second.moment ≡ int_max first.moment second.moment =
    (request_adds (office_of office.limits (before ++ first ∷ [])) next.0 (terms_by second.rules (before ++ first ∷ []) second.moment) second next.5).at_moment ∙ ap (λ o. later o second.moment) (last_entry-push before first) in
    let M : ℤ → Type 0 = λ m. first.moment ≤ℤ m in
    subst M (sym stamped) (greater-is_above first.moment second.moment)

-- ---- numbers of uploads

-- if at most one item is added after a list, that item is at the end, and the list's own items are before it
of_pushed : (us : History) (b : Bool) (e f : KeptEntry) (i : ℕ) → slice_get (us ++ cond b (e ∷ []) []) i ≡ Some f → (slice_get us i ≡ Some f) ⊎ ((b ≡ true) × (i ≡ length us) × (f ≡ e))
of_pushed us false e f i is = inl (ap (λ l. slice_get l i) (sym (append-nil us)) ∙ is)
of_pushed us true e f i is =
    let within = slice_get_within (us ++ e ∷ []) i f is in
    let read = get_or_from_slice_get (us ++ e ∷ []) i f f is in
    elim (leb_tells (length us) i) [
      | inl behind ↦
          let last : i ≡ length us = omega (arith, behind.1, within, length-append us (e ∷ [])) in
          inr (refl, last, sym read ∙ (ap (λ k. get_or (us ++ e ∷ []) k f) last ∙ get_or-append_seam us e [] f))
      | inr before ↦ inl (slice_get-get_or us i f before.1 ∙ ap Some (sym (get_or_append_left us (e ∷ []) f i before.1) ∙ read))
    ]

-- the number of a fresh upload is the next one
taken-is_taken : (body : List ℕ) (found : Option KeptEntry) → place_of_taken body found ≡ fresh → ⊥
taken-is_taken body None is = cc
taken-is_taken body (Some e) is = by_test (bytes_eq e.body body) is
  where
    by_test : (b : Bool) → cond b (repeat_of e.answer) number_taken ≡ fresh → ⊥
    by_test true is = cc
    by_test false is = cc

fresh-tests : (known old early : Bool) (next : ℕ) (body : List ℕ) (found : Option KeptEntry) → cond known (cond old (place_of_taken body found) (cond early (ahead next) fresh)) unknown_issuer ≡ fresh
    → (old ≡ false) × (early ≡ false)
fresh-tests false old early next body found is = cc
fresh-tests true true early next body found is = absurd (taken-is_taken body found is)
fresh-tests true false true next body found is = cc
fresh-tests true false false next body found is = (refl, refl)

fresh-is_next : (history : History) (office : List ℕ) (number : ℕ) (body : List ℕ) → place history office number body ≡ fresh → number ≡ last history office + 1
fresh-is_next history office number body is =
    let tests = fresh-tests (is_some (accredited history office)) (leb number (last history office)) (ltb (last history office + 1) number) (last history office + 1) body (upload_at history office number) is in
    let above = ltb-false (last history office + 1) number tests.1 in
    elim (leb_tells number (last history office)) [ inl old ↦ absurd (let bad : true ≡ false = sym old.0 ∙ tests.0 in cc) | inr new ↦ omega (arith, new.1, above) ]

-- an entry that is an upload of an office has its next number
upload_request : (e : KeptEntry) → e.kind ≡ 2 → request_of e ≡ Some (Upload (record { office = e.office; number = e.number; body = e.body }))
upload_request e is = rw is refl

both : (a b : Bool) → a && b ≡ true → (a ≡ true) × (b ≡ true)
both true true is = (refl, refl)
both true false is = cc
both false b is = cc

next-is_numbered : (limits : Limits) (before : History) (e : KeptEntry) (office : List ℕ) → IsNext (office_of limits before) e → is_upload_of office e ≡ true → e.number ≡ last before office + 1
next-is_numbered limits before e office next is =
    let parts = both (e.kind == 2) (bytes_eq e.office office) is in
    let of_office : e.office ≡ office = (bytes_eq-Decides e.office office).0 parts.1 in
    let call : Call = record { office = e.office; number = e.number; body = e.body } in
    let asked : next.0 ≡ Upload call = (let both : Some next.0 ≡ Some (Upload call) = sym next.1 ∙ upload_request e (eqb-true e.kind 2 parts.0) in cc) in
    let added = upload_adds (office_of limits before) call (terms_by e.rules before e.moment) e (ap (λ request. outcome_by e.rules (office_of limits before) request e.moment) (sym asked) ∙ next.5) in
    fresh-is_next before e.office e.number e.body added.0 ∙ ap (λ o. last before o + 1) of_office

numbered-push : (limits : Limits) (before : History) (e : KeptEntry) → IsNext (office_of limits before) e → UploadsAreNumbered before → UploadsAreNumbered (before ++ e ∷ [])
numbered-push limits before e next known office place f found = elim (eqb_tells place 0) [
  | inl none ↦ absurd (let bad : None ≡ Some f = ap (λ b. cond b None (slice_get (uploads (before ++ e ∷ []) office) (place - 1))) (sym none.0) ∙ found in cc)
  | inr some ↦
      let at : slice_get (uploads (before ++ e ∷ []) office) (place - 1) ≡ Some f = ap (λ b. cond b None (slice_get (uploads (before ++ e ∷ []) office) (place - 1))) (sym some.0) ∙ found in
      let parts = filter-append (is_upload_of office) before (e ∷ []) in
      elim (of_pushed (uploads before office) (is_upload_of office e) e f (place - 1) (ap (λ us. slice_get us (place - 1)) (sym parts) ∙ at)) [
        | inl older ↦ known office place f (ap (λ b. cond b None (slice_get (uploads before office) (place - 1))) some.0 ∙ older)
        | inr newest ↦
            let number = next-is_numbered limits before e office next newest.0 in
            ap (λ g. g.number) newest.2 ∙ (number ∙ omega (arith, newest.1, some.1))
      ]
]

numbered_after : (limits : Limits) (before rest : History) → LegalAfter limits before rest → UploadsAreNumbered before → UploadsAreNumbered (before ++ rest)
numbered_after limits before [] legal known = (let P : History → Type 0 = λ h. UploadsAreNumbered h in subst P (sym (append-nil before)) known)
numbered_after limits before (e ∷ rest) legal known =
    (let P : History → Type 0 = λ h. UploadsAreNumbered h in subst P (append_assoc before (e ∷ []) rest) (numbered_after limits (before ++ e ∷ []) rest legal.1 (numbered-push limits before e legal.0 known)))

numbered_none : UploadsAreNumbered []
numbered_none office place e found = elim (eqb_tells place 0) [
  | inl none ↦ absurd (let bad : None ≡ Some e = ap (λ b. cond b None (slice_get (uploads [] office) (place - 1))) (sym none.0) ∙ found in cc)
  | inr some ↦ absurd (let bad : None ≡ Some e = sym (slice_get_past (uploads [] office) (place - 1) (omega arith)) ∙ (ap (λ b. cond b None (slice_get (uploads [] office) (place - 1))) (sym some.0) ∙ found) in cc)
]

pub numbered : (office : OfficeState) → Legal office → UploadsAreNumbered office.history
unfolding Legal
numbered office legal = numbered_after office.limits [] office.history legal numbered_none
