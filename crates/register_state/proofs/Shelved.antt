-- The shelf of a history that grows by an entry.
use Rattle.std.proofs.Common.{◌≡◌, ℕ, ◌≤◌, ◌<◌, List, [], ◌∷◌, ◌++◌, length, Bool, true, false, cond, ◌==◌, Some, Result, Ok, Err, refl, sym, ap, subst, ◌∙◌, arith, suc, get_or, take, drop, filter, drop-cons, take-append-drop, unwrap_or}
use Rattle.std.proofs.lemmas.List.Elements.{filter-append}
use Rattle.std.specs.Prelude.{IsTrue, MatchResult}
use Rattle.std.proofs.lemmas.Bool.{eqb-true}
use Rattle.register_words.specs.declared.sheets.Form.{Form}
use Rattle.register_words.specs.declared.sheets.Sheet.{Sheet}
use Rattle.copy_forms.specs.Trails.{Publication, Trail, copy_of, delta_between, nothing_published}
use Rattle.golden_shelf.specs.Bases.{base_in, trail_moments}
use Rattle.register_words.specs.declared.base.Base.{Base}
use Rattle.golden_shelf.specs.declared.fault.ShelfFault.{ShelfFault}
use Rattle.golden_shelf.specs.declared.fault.ShelfFault.TheVariants as shelf_faults
use Rattle.lei_code.specs.Texts as texts
use Rattle.golden_shelf.specs.Changes.{IsIssued, KeyChanges}
use Rattle.golden_shelf.specs.declared.issue.Issue.{Issue}
use Rattle.golden_shelf.specs.Shelves.{AreIssuesOf, Kept, KeepsTrail as KeepsTrail, ShelfState, last_after, latest, latest_rows}
use Rattle.lei_values.specs.KeptTables.{entry_number}
use Rattle.lei_values.specs.declared.entry.KeptEntry.{KeptEntry}
use Rattle.lei_values.specs.declared.no_memory.NoMemory.{NoMemory}
use Rattle.register_table.specs.Held.{Held}
use Rattle.register_table.specs.Touched.{touched as touched_cells}
use Rattle.upload_ledger.specs.History.{History, is_publication, last_entry, publications}
use Rattle.register_state.specs.declared.decision.Decision.{Decision}
use Rattle.register_state.specs.declared.decision.Decision.TheVariants.{Adds, Stays}
use Rattle.register_words.specs.declared.limits.Limits.{Limits}
use Rattle.register_words.specs.declared.reply.Refusal.TheVariants.{NoBase, NothingPublished, PublicationUnknown}
use Rattle.register_words.specs.declared.reply.Reply.TheVariants.{Text, Words}
use Rattle.register_words.specs.declared.request.Request.{Request}
use Rattle.register_words.specs.declared.request.Request.TheVariants.{Accredit, Copy, Delta, Publish, Upload}
use Rattle.register_words.specs.declared.request.Call.{Call}
use Rattle.register_state.specs.Deciding.{Decides}
use Rattle.register_history.specs.Legal.{Legal, request_of}
use Rattle.register_history.specs.Publications.{are_wide_rules, last_published, publication_by, trail}
use Rattle.register_history.specs.Publishing.{AreChangesSince, AreNextChanges}
use Rattle.register_history.specs.Register.{after, held_after}
use Rattle.register_history.specs.Replies.{Outcome, copy_outcome, delta_outcome, delta_to_latest, form_kind, next_publication, outcome_at, publication_entry, published_counts, reply_of, stays, takes_memory}
use Rattle.register_state.specs.Shelving.{IsShelved, Shelves, back_to}
use Rattle.register_history.specs.State.{office_of}
use Rattle.register_history.proofs.Histories.{last_entry-push, request_adds}
use Rattle.register_history.proofs.NextIssue.{next_issued}
use Rattle.register_history.proofs.TrailGrowth.{trail-length, trail-push, trail-same}
use Rattle.register_history.specs.declared.terms.EntryTerms.{EntryTerms}

-- ---- no entry yet

pub shelved-none : (limits : Limits) (kept : Kept) → KeepsTrail [] kept → IsShelved (office_of limits []) kept
unfolding trail
shelved-none limits kept keeps = keeps

-- ---- an entry that publishes nothing

-- the trail stays the same
pub same-shelved : (limits : Limits) (history : History) (e : KeptEntry) (kept : Kept) → is_publication e ≡ false → IsShelved (office_of limits history) kept → IsShelved (office_of limits (history ++ e ∷ [])) kept
same-shelved limits history e kept is shelved = subst (λ t. KeepsTrail t kept) (sym (trail-same limits history e is)) shelved

-- an entry for any other request publishes nothing
abbrev publishes : Request → Bool
publishes (Publish number) = true
publishes request = false

publication_request : (e : KeptEntry) → e.kind ≡ 3 → request_of e ≡ Some (Publish e.number)
publication_request e is = rw is refl

kind_apart : (e : KeptEntry) (request : Request) → request_of e ≡ Some request → publishes request ≡ false → is_publication e ≡ false
kind_apart e request asked other = by_kind (e.kind == 3) refl
  where
    by_kind : (b : Bool) → (e.kind == 3) ≡ b → b ≡ false
    by_kind false is = refl
    by_kind true is =
        let both : Some (Publish e.number) ≡ Some request = sym (publication_request e (eqb-true e.kind 3 is)) ∙ asked in
        let same : Publish e.number ≡ request = cc in
        ap publishes same ∙ other

pub other-shelves : (limits : Limits) (history : History) (request : Request) (terms : EntryTerms) (shelf : ShelfState) (result : Result Decision NoMemory)
    → publishes request ≡ false → IsShelved (office_of limits history) shelf.now → Decides (office_of limits history) request (outcome_at (office_of limits history) request terms) result → Shelves (office_of limits history) shelf result shelf
other-shelves limits history request terms shelf (Ok (Stays reply)) other shelved decides = refl
other-shelves limits history request terms shelf (Ok (Adds e list)) other shelved decides =
    let added = request_adds (office_of limits history) request terms e decides.0 in
    let none = kind_apart e request added.for_request other in
    (same-shelved limits history e shelf.now none shelved, ap (λ b. back_to b shelf) none)
other-shelves limits history request terms shelf (Err wanted) other shelved decides = refl

pub accredit-shelves : (limits : Limits) (history : History) (issuer : List ℕ) (terms : EntryTerms) (shelf : ShelfState) (result : Result Decision NoMemory)
    → IsShelved (office_of limits history) shelf.now → Decides (office_of limits history) (Accredit issuer) (outcome_at (office_of limits history) (Accredit issuer) terms) result → Shelves (office_of limits history) shelf result shelf
accredit-shelves limits history issuer terms shelf result shelved decides =
    other-shelves limits history (Accredit issuer) terms shelf result refl shelved decides

pub upload-shelves : (limits : Limits) (history : History) (call : Call) (terms : EntryTerms) (shelf : ShelfState) (result : Result Decision NoMemory)
    → IsShelved (office_of limits history) shelf.now → Decides (office_of limits history) (Upload call) (outcome_at (office_of limits history) (Upload call) terms) result → Shelves (office_of limits history) shelf result shelf
upload-shelves limits history call terms shelf result shelved decides =
    other-shelves limits history (Upload call) terms shelf result refl shelved decides

-- ---- a publication

-- the trail has one more publication
pub next-shelved : (limits : Limits) (history : History) (e : KeptEntry) (kept : Kept) → is_publication e ≡ true
    → KeepsTrail (trail (office_of limits history) ++ publication_by limits history e ∷ []) kept → IsShelved (office_of limits (history ++ e ∷ [])) kept
next-shelved limits history e kept is keeps =
    let made = trail (office_of limits history) in
    let same : trail (office_of limits (history ++ e ∷ [])) ≡ made ++ publication_by limits history e ∷ [] =
    trail-push limits history e ∙ ap (λ b. made ++ cond b (publication_by limits history e ∷ []) []) is in
    subst (λ t. KeepsTrail t kept) (sym same) keeps

-- what was touched since the last publication is what the next one changes
pub next-changes : (limits : Limits) (history : History) (after upto : ℕ) (held : Held) (changes list : KeyChanges) → after ≡ last_published history → upto ≡ length history
    → held ≡ held_after limits history → list ≡ changes → AreChangesSince after upto held changes → AreNextChanges limits history list
next-changes limits history after upto held changes list is_after is_upto is_held same are = record {
  told = are.told;
  touched = are.touched
      ∙ (ap (λ n. touched_cells n upto held) is_after
      ∙ (ap (λ n. touched_cells (last_published history) n held) is_upto ∙ ap (touched_cells (last_published history) (length history)) is_held));
  own = are.own;
  are = same ∙ are.are;
}

issues-length : (issues : List Issue) (made : Trail) → AreIssuesOf issues made → length issues ≡ length made
issues-length [] [] are = refl
issues-length [] (publication ∷ made) are = absurd are
issues-length (issue ∷ issues) [] are = absurd are
issues-length (issue ∷ issues) (publication ∷ made) are = let rest = issues-length issues made are.1 in omega (arith, rest)

-- there is room for one more publication
pub shelf-few : (limits : Limits) (history : History) (kept : Kept) (number : ℕ) → IsShelved (office_of limits history) kept → number ≤ 1_000_000 → number ≡ next_publication history
    → length kept.issues < 1_000_000
shelf-few limits history kept number shelved most next =
    let made = issues-length kept.issues (trail (office_of limits history)) shelved.issues_are in
    let count = trail-length (office_of limits history) in
    omega (arith, made, count, most, next)

-- the shelf with the next publication keeps the history with its entry
pub published-shelved : (limits : Limits) (history : History) (number : ℕ) (terms : EntryTerms) (changes : KeyChanges) (old new : Kept) → Legal (office_of limits history) → AreNextChanges limits history changes
    → IsShelved (office_of limits history) old
    → ((made : Trail) (next : Publication) → KeepsTrail made old → IsIssued (latest_rows made) terms.moment (are_wide_rules terms.rules) changes next → KeepsTrail (made ++ next ∷ []) new)
    → KeepsTrail (trail (office_of limits history) ++ publication_by limits history (publication_entry (office_of limits history) number terms) ∷ []) new
published-shelved limits history number terms changes old new legal are shelved publish =
    let e = publication_entry (office_of limits history) number terms in
    publish (trail (office_of limits history)) (publication_by limits history e) shelved (next_issued limits history changes e terms.moment legal are refl refl)

last_after-push : (first : Publication) (later : Trail) (p : Publication) → last_after first (later ++ p ∷ []) ≡ p
last_after-push first [] p = refl
last_after-push first (next ∷ later) p = last_after-push next later p

latest-push : (made : Trail) (p : Publication) → latest (made ++ p ∷ []) ≡ Some p
latest-push [] p = refl
latest-push (first ∷ later) p = ap Some (last_after-push first later p)

-- the numbers of the latest rows are those in the entry's answer
pub published-counted : (limits : Limits) (history : History) (made : Trail) (e : KeptEntry) (counts : ℕ × ℕ × ℕ)
    → counts.0 ≡ length (latest_rows (made ++ publication_by limits history e ∷ []) Sheet.Lei) → counts.1 ≡ length (latest_rows (made ++ publication_by limits history e ∷ []) Sheet.Rr)
    → counts.2 ≡ length (latest_rows (made ++ publication_by limits history e ∷ []) Sheet.Repex) → counts ≡ published_counts (after limits history)
published-counted limits history made e counts lei rr repex =
    let p = publication_by limits history e in
    let at : (sheet : Sheet) → length (latest_rows (made ++ p ∷ []) sheet) ≡ length (p.rows sheet) = λ sheet. ap (λ o. length ((unwrap_or o nothing_published).rows sheet)) (latest-push made p) in
    let first = lei ∙ at Sheet.Lei in
    let second = rr ∙ at Sheet.Rr in
    let third = repex ∙ at Sheet.Repex in
    λ i. (first i, second i, third i)

-- ---- copies

none-published : (made : Trail) (kept : Kept) → KeepsTrail made kept → made ≡ [] → kept.issues ≡ []
none-published made kept keeps none = by_issues kept.issues (subst (AreIssuesOf kept.issues) none keeps.issues_are)
  where
    by_issues : (issues : List Issue) → AreIssuesOf issues [] → issues ≡ []
    by_issues [] are = refl
    by_issues (issue ∷ issues) are = absurd are

-- if there is a publication, its copy is the reply
pub copy-told : (made : Trail) (kept : Kept) (sheet : Sheet) (form : Form) (bytes : List ℕ) → KeepsTrail made kept → (kept.issues ≡ [] → ⊥)
    → ((made : Trail) (last : Publication) → KeepsTrail made kept → latest made ≡ Some last → bytes ≡ copy_of (length made) last sheet form)
    → copy_outcome sheet form made ≡ stays (Text 200 (form_kind form) bytes)
copy-told [] kept sheet form bytes keeps some is = absurd (some (none-published [] kept keeps refl))
copy-told (first ∷ later) kept sheet form bytes keeps some is = ap (λ b. stays (Text 200 (form_kind form) b)) (sym (is (first ∷ later) (last_after first later) keeps refl))

pub copy-memory : (made : Trail) (kept : Kept) (sheet : Sheet) (form : Form) → KeepsTrail made kept → (kept.issues ≡ [] → ⊥) → IsTrue (takes_memory (Copy sheet form) (reply_of (copy_outcome sheet form made)))
copy-memory [] kept sheet form keeps some = absurd (some (none-published [] kept keeps refl))
copy-memory (first ∷ later) kept sheet form keeps some = refl

pub copy-none : (made : Trail) (kept : Kept) (sheet : Sheet) (form : Form) → KeepsTrail made kept → kept.issues ≡ [] → copy_outcome sheet form made ≡ stays (Words NothingPublished)
copy-none [] kept sheet form keeps none = refl
copy-none (first ∷ later) kept sheet form keeps none = absurd (subst (λ l. AreIssuesOf l (first ∷ later)) none keeps.issues_are)

-- ---- deltas

-- what has to be answered if a shelf returns this
abbrev pub IsToldOf : Request → Outcome → Form → Result texts.Text ShelfFault → Type 0
IsToldOf request outcome form (Ok text) = outcome ≡ stays (Text 200 (form_kind form) text)
IsToldOf request outcome form (Err shelf_faults.NoMemory) = IsTrue (takes_memory request (reply_of outcome))
IsToldOf request outcome form (Err shelf_faults.NothingPublished) = outcome ≡ stays (Words NothingPublished)
IsToldOf request outcome form (Err shelf_faults.PublicationUnknown) = outcome ≡ stays (Words PublicationUnknown)
IsToldOf request outcome form (Err shelf_faults.NoBase) = outcome ≡ stays (Words NoBase)

-- what a shelf returns for a base, and the fault that it reports, by the trail that it keeps
abbrev pub Refuses : Base → Kept → Result texts.Text ShelfFault → Type 0
Refuses base kept given = (made : Trail) (fault : ShelfFault) → KeepsTrail made kept → base_in (trail_moments made) base ≡ Err fault → given ≡ Err fault

abbrev pub Gives : Base → Sheet → Form → Kept → Result texts.Text ShelfFault → Type 0
Gives base sheet form kept given = (made : Trail) (from : ℕ) (last : Publication) → KeepsTrail made kept → latest made ≡ Some last → base_in (trail_moments made) base ≡ Ok from
    → MatchResult given (λ bytes. bytes ≡ delta_between made from (length made) last sheet form) (λ fault. fault ≡ shelf_faults.NoMemory)

given-told : (base : Base) (made : Trail) (sheet : Sheet) (form : Form) (from : ℕ) (last : Publication) (given : Result texts.Text ShelfFault)
    → MatchResult given (λ bytes. bytes ≡ delta_between made from (length made) last sheet form) (λ fault. fault ≡ shelf_faults.NoMemory)
    → IsToldOf (Delta base sheet form) (delta_to_latest sheet form made (Ok from) (Some last)) form given
given-told base made sheet form from last (Ok bytes) is = ap (λ b. stays (Text 200 (form_kind form) b)) (sym is)
given-told base made sheet form from last (Err shelf_faults.NoMemory) is = refl
given-told base made sheet form from last (Err shelf_faults.NothingPublished) is = cc
given-told base made sheet form from last (Err shelf_faults.PublicationUnknown) is = cc
given-told base made sheet form from last (Err shelf_faults.NoBase) is = cc

refused-told : (base : Base) (made : Trail) (sheet : Sheet) (form : Form) (fault : ShelfFault) → IsToldOf (Delta base sheet form) (delta_to_latest sheet form made (Err fault) (latest made)) form (Err fault)
refused-told base made sheet form shelf_faults.NoMemory = refl
refused-told base made sheet form shelf_faults.NothingPublished = refl
refused-told base made sheet form shelf_faults.PublicationUnknown = refl
refused-told base made sheet form shelf_faults.NoBase = refl

pub delta-told : (made : Trail) (kept : Kept) (base : Base) (sheet : Sheet) (form : Form) (given : Result texts.Text ShelfFault) → KeepsTrail made kept → Refuses base kept given → Gives base sheet form kept given
    → IsToldOf (Delta base sheet form) (delta_outcome base sheet form made) form given
delta-told made kept base sheet form given keeps refuses gives = by_found made keeps (base_in (trail_moments made) base) refl
  where
    by_found : (made : Trail) → KeepsTrail made kept → (found : Result ℕ ShelfFault) → base_in (trail_moments made) base ≡ found → IsToldOf (Delta base sheet form) (delta_outcome base sheet form made) form given
    by_found made keeps (Err fault) is =
        let Told : Result ℕ ShelfFault → Type 0 = λ found. IsToldOf (Delta base sheet form) (delta_to_latest sheet form made found (latest made)) form given in
        let Given : Result texts.Text ShelfFault → Type 0 = λ given. IsToldOf (Delta base sheet form) (delta_to_latest sheet form made (Err fault) (latest made)) form given in
        subst Told (sym is) (subst Given (sym (refuses made fault keeps is)) (refused-told base made sheet form fault))
    by_found [] keeps (Ok from) is = cc
    by_found (first ∷ later) keeps (Ok from) is =
        let made = first ∷ later in
        let last = last_after first later in
        let Told : Result ℕ ShelfFault → Type 0 = λ found. IsToldOf (Delta base sheet form) (delta_to_latest sheet form made found (Some last)) form given in
        subst Told (sym is) (given-told base made sheet form from last given (gives made from last keeps refl is))

-- ---- the entry of the latest publication

cut-at : (entries : History) (i : ℕ) (e : KeptEntry) → i < length entries → get_or entries i e ≡ e → drop i entries ≡ e ∷ drop (suc i) entries
cut-at entries i e within at = drop-cons entries i e within ∙ ap (λ x. x ∷ drop (suc i) entries) at

pub latest-found : (entries : History) (i k : ℕ) (e : KeptEntry) → i < length entries → k ≡ suc i → get_or entries i e ≡ e → is_publication e ≡ true → filter is_publication (drop k entries) ≡ []
    → last_published entries ≡ e.seq
latest-found entries i k e within next at is nothing =
    let none : filter is_publication (drop (suc i) entries) ≡ [] = ap (λ n. filter is_publication (drop n entries)) (sym next) ∙ nothing in
    let front = filter is_publication (take i entries) in
    let behind : filter is_publication (drop i entries) ≡ e ∷ [] =
    ap (filter is_publication) (cut-at entries i e within at) ∙ (ap (λ b. cond b (e ∷ filter is_publication (drop (suc i) entries)) (filter is_publication (drop (suc i) entries))) is ∙ ap (λ l. e ∷ l) none) in
    let whole : publications entries ≡ front ++ e ∷ [] =
    ap (filter is_publication) (sym (take-append-drop i entries)) ∙ (filter-append is_publication (take i entries) (drop i entries) ∙ ap (λ l. front ++ l) behind) in
    ap (λ l. entry_number (last_entry l)) whole ∙ ap entry_number (last_entry-push front e)
