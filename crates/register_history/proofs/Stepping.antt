-- What a step does to the history, and how many publications result.
use Rattle.std.proofs.Common.{◌≡◌, inl, inr, ◌≤◌, ◌<◌, ℤ, [], ◌∷◌, ◌++◌, Bool, true, false, cond, length, Some, refl, sym, ap, subst, ◌∙◌, arith, append-nil, append_assoc, length-append}
use Rattle.std.proofs.lemmas.Bool.{eqb-true}
use Rattle.std.proofs.lemmas.List.Elements.{filter-append}
use Rattle.lei_values.specs.declared.entry.KeptEntry.{KeptEntry}
use Rattle.upload_ledger.specs.History.{History, is_publication, publications, published}
use Rattle.register_words.specs.Requests.{IsRequest}
use Rattle.register_words.specs.declared.limits.Limits.{Limits}
use Rattle.register_words.specs.declared.reply.Reply.{Reply}
use Rattle.register_words.specs.declared.request.Request.{Request}
use Rattle.register_words.specs.declared.request.Request.TheVariants.{Publish}
use Rattle.register_history.specs.Legal.{IsNext, Legal, LegalAfter, request_of}
use Rattle.register_history.specs.Replies.{Outcome, Step, adds, next_of, next_publication, outcome, outcome_by, stays, terms_by}
use Rattle.register_history.specs.State.{OfficeState, office_of}
use Rattle.register_history.specs.Steps.{AddsOneOrNone}
use Rattle.register_history.proofs.Histories.{publish_adds}

-- ---- one entry or none

of_outcome : (old new : OfficeState) (outcome : Outcome) → new ≡ next_of old outcome → AddsOneOrNone old new
of_outcome old new (stays reply) is = (ap (λ o. o.limits) is, inl (ap (λ o. o.history) is))
of_outcome old new (adds e) is = (ap (λ o. o.limits) is, inr (e, ap (λ o. o.history) is))

pub one-or-none : (old new : OfficeState) (request : Request) (moment : ℤ) (answered : Reply) → Step old request moment answered new → AddsOneOrNone old new
one-or-none old new request moment answered (inl step) = of_outcome old new (outcome old request moment) step.1
one-or-none old new request moment answered (inr (inl wanting)) = (ap (λ o. o.limits) wanting.1, inl (ap (λ o. o.history) wanting.1))
one-or-none old new request moment answered (inr (inr failing)) = (ap (λ o. o.limits) failing.1, inl (ap (λ o. o.history) failing.1))

-- ---- how many publications

publication_request : (e : KeptEntry) → e.kind ≡ 3 → request_of e ≡ Some (Publish e.number)
publication_request e is = rw is refl

few-push : (limits : Limits) (before : History) (e : KeptEntry) → IsNext (office_of limits before) e → length (publications before) ≤ 1000000 → length (publications (before ++ e ∷ [])) ≤ 1000000
few-push limits before e next few = by_kind (is_publication e) refl
  where
    by_kind : (b : Bool) → is_publication e ≡ b → length (publications (before ++ e ∷ [])) ≤ 1000000
    by_kind false is =
        let same : publications (before ++ e ∷ []) ≡ publications before =
        filter-append is_publication before (e ∷ []) ∙ (ap (λ b. publications before ++ cond b (e ∷ []) []) is ∙ append-nil (publications before)) in
        subst (λ l. length l ≤ 1000000) (sym same) few
    by_kind true is =
        let office = office_of limits before in
        let asked : next.0 ≡ Publish e.number = (let both : Some next.0 ≡ Some (Publish e.number) = sym next.1 ∙ publication_request e (eqb-true e.kind 3 is) in cc) in
        let most = (subst IsRequest asked next.2).1 in
        let added = publish_adds office e.number (terms_by e.rules before e.moment) (published before e.number) e (ap (λ r. outcome_by e.rules office r e.moment) (sym asked) ∙ next.5) in
        let own = eqb-true e.number (next_publication before) added.next in
        let same : publications (before ++ e ∷ []) ≡ publications before ++ e ∷ [] =
        filter-append is_publication before (e ∷ []) ∙ ap (λ b. publications before ++ cond b (e ∷ []) []) is in
        let count = ap length same ∙ length-append (publications before) (e ∷ []) in
        omega (arith, count, own, most)

few_after : (limits : Limits) (before rest : History) → LegalAfter limits before rest → length (publications before) ≤ 1000000 → length (publications (before ++ rest)) ≤ 1000000
few_after limits before [] legal few = (let F : History → Type 0 = λ h. length (publications h) ≤ 1000000 in subst F (sym (append-nil before)) few)
few_after limits before (e ∷ rest) legal few =
    (let F : History → Type 0 = λ h. length (publications h) ≤ 1000000 in subst F (append_assoc before (e ∷ []) rest) (few_after limits (before ++ e ∷ []) rest legal.1 (few-push limits before e legal.0 few)))

pub few-publications : (office : OfficeState) → Legal office → length (publications office.history) < 1000001
unfolding Legal
few-publications office legal = (let few = few_after office.limits [] office.history legal (omega arith) in omega (arith, few))
