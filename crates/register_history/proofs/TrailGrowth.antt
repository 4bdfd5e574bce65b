-- The trail of a history that grows by an entry, and its latest publication.
use Rattle.std.proofs.Common.{◌≡◌, ℕ, ◌+◌, ◌-◌, suc, ℤ, List, [], ◌∷◌, ◌++◌, length, map, Bool, true, false, cond, Option, Some, None, option_map, slice_get, refl, sym, ap, ◌∙◌, arith, append-nil, append_assoc, length-append}
use Rattle.lei_values.specs.declared.entry.KeptEntry.{KeptEntry}
use Rattle.copy_forms.specs.Trails.{Publication, Trail}
use Rattle.golden_shelf.specs.Shelves.{latest}
use Rattle.golden_shelf.proofs.Publishing.{latest_push}
use Rattle.upload_ledger.specs.History.{History, is_publication, last_entry, publications}
use Rattle.register_words.specs.declared.limits.Limits.{Limits}
use Rattle.register_history.specs.Publications.{publication_by, published_by, trail, trail_after}
use Rattle.register_history.specs.State.{OfficeState, office_of}

-- ---- one more entry

behind-push : (limits : Limits) (before rest : History) (e : KeptEntry)
    → trail_after limits before (rest ++ e ∷ []) ≡ trail_after limits before rest ++ published_by limits (before ++ rest) e
behind-push limits before [] e = append-nil (published_by limits before e) ∙ ap (λ h. published_by limits h e) (sym (append-nil before))
behind-push limits before (first ∷ rest) e =
    let own = published_by limits before first in
    let later = trail_after limits (before ++ first ∷ []) rest in
    ap (λ t. own ++ t)
    (behind-push limits (before ++ first ∷ []) rest e ∙ ap (λ h. later ++ published_by limits h e) (append_assoc before (first ∷ []) rest))
    ∙ sym (append_assoc own later (published_by limits (before ++ first ∷ rest) e))

-- the trail has one more publication, if the entry is one
pub trail-push : (limits : Limits) (history : History) (e : KeptEntry)
    → trail (office_of limits (history ++ e ∷ [])) ≡ trail (office_of limits history) ++ published_by limits history e
unfolding trail
trail-push limits history e = behind-push limits [] history e

-- a publication is the latest one afterwards
pub trail-made : (limits : Limits) (history : History) (e : KeptEntry) → is_publication e ≡ true
    → latest (trail (office_of limits (history ++ e ∷ []))) ≡ Some (publication_by limits history e)
trail-made limits history e is =
    let made = trail (office_of limits history) in
    let publication = publication_by limits history e in
    ap latest (trail-push limits history e ∙ ap (λ b. made ++ cond b (publication ∷ []) []) is) ∙ latest_push made publication

-- and another entry leaves the trail unchanged
pub trail-same : (limits : Limits) (history : History) (e : KeptEntry) → is_publication e ≡ false
    → trail (office_of limits (history ++ e ∷ [])) ≡ trail (office_of limits history)
trail-same limits history e is =
    let made = trail (office_of limits history) in
    trail-push limits history e ∙ (ap (λ b. made ++ cond b (publication_by limits history e ∷ []) []) is ∙ append-nil made)

-- ---- as many as the entries that made them

behind-length : (limits : Limits) (before rest : History) → length (trail_after limits before rest) ≡ length (publications rest)
behind-length limits before [] = refl
behind-length limits before (e ∷ rest) =
    length-append (published_by limits before e) (trail_after limits (before ++ e ∷ []) rest)
    ∙ by (is_publication e) (behind-length limits (before ++ e ∷ []) rest)
  where
    by : (b : Bool) → length (trail_after limits (before ++ e ∷ []) rest) ≡ length (publications rest)
        → length (cond b (publication_by limits before e ∷ []) []) + length (trail_after limits (before ++ e ∷ []) rest)
        ≡ length (cond b (e ∷ publications rest) (publications rest))
    by true later = omega (arith, later)
    by false later = omega (arith, later)

pub trail-length : (office : OfficeState) → length (trail office) ≡ length (publications office.history)
unfolding trail
trail-length office = behind-length office.limits [] office.history

-- ---- their moments

abbrev of_publication : Publication → ℤ
of_publication p = p.moment

abbrev of_entry : KeptEntry → ℤ
of_entry e = e.moment

abbrev last_of : List ℤ → Option ℤ
last_of [] = None
last_of (m ∷ []) = Some m
last_of (m ∷ n ∷ moments) = last_of (n ∷ moments)

behind-moments : (limits : Limits) (before rest : History) → map of_publication (trail_after limits before rest) ≡ map of_entry (publications rest)
behind-moments limits before [] = refl
behind-moments limits before (e ∷ rest) = by (is_publication e) (behind-moments limits (before ++ e ∷ []) rest)
  where
    by : (b : Bool) → map of_publication (trail_after limits (before ++ e ∷ []) rest) ≡ map of_entry (publications rest)
        → map of_publication (cond b (publication_by limits before e ∷ []) [] ++ trail_after limits (before ++ e ∷ []) rest)
        ≡ map of_entry (cond b (e ∷ publications rest) (publications rest))
    by true later = ap (λ l. e.moment ∷ l) later
    by false later = later

last-published : (made : Trail) → option_map of_publication (latest made) ≡ last_of (map of_publication made)
last-published [] = refl
last-published (p ∷ []) = refl
last-published (p ∷ q ∷ made) = last-published (q ∷ made)

last-entry : (entries : History) → option_map of_entry (last_entry entries) ≡ last_of (map of_entry entries)
last-entry [] = refl
last-entry (e ∷ []) = refl
last-entry (e ∷ f ∷ entries) =
    let at : length (e ∷ f ∷ entries) - 1 ≡ suc (length (f ∷ entries) - 1) = omega arith in
    ap (λ n. option_map of_entry (slice_get (e ∷ f ∷ entries) n)) at ∙ last-entry (f ∷ entries)

-- the moment of the latest publication is that of the last entry that made one
pub latest-moment : (office : OfficeState)
    → option_map (λ (p : Publication). p.moment) (latest (trail office)) ≡ option_map (λ (e : KeptEntry). e.moment) (last_entry (publications office.history))
unfolding trail
latest-moment office =
    let made = trail_after office.limits [] office.history in
    last-published made ∙ (ap last_of (behind-moments office.limits [] office.history) ∙ sym (last-entry (publications office.history)))

-- the latest publication with its number, as reported
pub latest-told : (office : OfficeState)
    → option_map {U = ℕ × ℤ} (λ (p : Publication). (length (trail office), p.moment)) (latest (trail office))
    ≡ option_map {U = ℕ × ℤ} (λ (e : KeptEntry). (length (publications office.history), e.moment)) (last_entry (publications office.history))
latest-told office =
    by (latest (trail office)) (last_entry (publications office.history)) (latest-moment office)
    ∙ ap (λ n. option_map {U = ℕ × ℤ} (λ (e : KeptEntry). (n, e.moment)) (last_entry (publications office.history))) (trail-length office)
  where
    told : Option ℤ → Option (ℕ × ℤ)
    told = option_map (λ moment. (length (trail office), moment))

    by : (p : Option Publication) (e : Option KeptEntry) → option_map (λ (p : Publication). p.moment) p ≡ option_map (λ (e : KeptEntry). e.moment) e
        → option_map {U = ℕ × ℤ} (λ (p : Publication). (length (trail office), p.moment)) p ≡ option_map {U = ℕ × ℤ} (λ (e : KeptEntry). (length (trail office), e.moment)) e
    by None None same = refl
    by None (Some e) same = cc
    by (Some p) None same = cc
    by (Some p) (Some e) same = ap told same

-- there is one if some entry made one
pub latest-made : (office : OfficeState) (e : KeptEntry) → last_entry (publications office.history) ≡ Some e
    → (p : Publication) × (latest (trail office) ≡ Some p) × (p.moment ≡ e.moment)
latest-made office e last = by (latest (trail office)) refl (latest-moment office ∙ ap (option_map (λ (e : KeptEntry). e.moment)) last)
  where
    by : (found : Option Publication) → latest (trail office) ≡ found → option_map (λ (p : Publication). p.moment) found ≡ Some e.moment
        → (p : Publication) × (latest (trail office) ≡ Some p) × (p.moment ≡ e.moment)
    by None is same = cc
    by (Some p) is same = (p, is, cc)

-- and none if no entry made one
pub latest-none : (office : OfficeState) → last_entry (publications office.history) ≡ None → latest (trail office) ≡ None
latest-none office last = by (latest (trail office)) (latest-moment office ∙ ap (option_map (λ (e : KeptEntry). e.moment)) last)
  where
    by : (found : Option Publication) → option_map (λ (p : Publication). p.moment) found ≡ None → found ≡ None
    by None same = refl
    by (Some p) same = cc
