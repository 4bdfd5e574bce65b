-- The books of a register whose history grows by an entry.
use Rattle.std.proofs.Common.{◌≡◌, ◌+◌, ℕ, ℤ, ◌∷◌, [], ◌++◌, true, sym, ap, subst, ◌∙◌}
use Rattle.lei_values.specs.declared.entry.KeptEntry.{KeptEntry}
use Rattle.lei_records.specs.Tables.{put_all}
use Rattle.lei_shapes.specs.Moment.{IsMoment}
use Rattle.register_table.specs.Held.{TableState, rows}
use Rattle.register_table.specs.Undos.{IsLater, WriteList, touch_all}
use Rattle.upload_ledger.specs.History.{History}
use Rattle.register_words.specs.Requests.{IsRequest}
use Rattle.register_words.specs.declared.limits.Limits.{Limits}
use Rattle.register_words.specs.declared.request.Request.{Request}
use Rattle.register_history.specs.Legal.{Legal, rules_may_follow}
use Rattle.register_history.specs.Register.{IsKeptAfter}
use Rattle.register_history.specs.Replies.{adds, newest_rules, outcome_at, outcome_by, terms_by}
use Rattle.register_history.specs.State.{OfficeState, office_of}
use Rattle.register_history.proofs.Histories.{Legal-push, added-is_next, newest-follows}
use Rattle.register_history.proofs.TableLemmas.{kept-push}
use Rattle.register_state.specs.Books.{AreBooks, office_with_entry, office_writes}
use Rattle.register_state.specs.Deciding.{FitsNext}
use Rattle.register_history.specs.declared.terms.EntryTerms.{EntryTerms}

-- the entry that a request adds by rules that may follow leads to a legal history
pub legal-added : (office : OfficeState) (rules : ℕ) (request : Request) (moment : ℤ) (at : EntryTerms) (e : KeptEntry) → IsRequest request → IsMoment moment
    → rules_may_follow office.history rules ≡ true → at ≡ terms_by rules office.history moment → Legal office → outcome_at office request at ≡ adds e → Legal (office_with_entry office e)
legal-added office rules request moment at e asked is follows stamped legal comes =
    let came : outcome_by rules office request moment ≡ adds e = ap (outcome_at office request) (sym stamped) ∙ comes in
    Legal-push office.limits office.history e legal (added-is_next office.limits office.history rules request moment e asked is follows legal came)

-- if rules may follow, the rules of the terms that are built from them may follow
pub terms-follow : (office : OfficeState) (rules : ℕ) (moment : ℤ) (at : EntryTerms) → at ≡ terms_by rules office.history moment → rules_may_follow office.history rules ≡ true
    → rules_may_follow office.history at.rules ≡ true
terms-follow office rules moment at stamped follows = ap (λ (t : EntryTerms). rules_may_follow office.history t.rules) stamped ∙ follows

-- the newest rules may follow
pub terms-newest : (office : OfficeState) (moment : ℤ) (at : EntryTerms) → at ≡ terms_by newest_rules office.history moment → Legal office
    → rules_may_follow office.history at.rules ≡ true
terms-newest office moment at stamped legal = terms-follow office newest_rules moment at stamped (newest-follows office.limits office.history legal)

-- the same by the newest rules
pub legal-new : (office : OfficeState) (request : Request) (moment : ℤ) (at : EntryTerms) (e : KeptEntry) → IsRequest request → IsMoment moment
    → at ≡ terms_by newest_rules office.history moment → Legal office → outcome_at office request at ≡ adds e → Legal (office_with_entry office e)
legal-new office request moment at e asked is stamped legal comes =
    legal-added office newest_rules request moment at e asked is (newest-follows office.limits office.history legal) stamped legal comes

-- the books with one more entry
pub books-push : (limits : Limits) (history later : History) (old new : TableState) (e : KeptEntry) (writes : WriteList) → AreBooks limits history old → Legal (office_with_entry (office_of limits history) e)
    → FitsNext (office_of limits history) e → writes ≡ office_writes (office_of limits history) e → later ≡ history ++ e ∷ [] → new.held ≡ touch_all e.seq writes old.held
    → rows new.held ≡ put_all writes (rows old.held) → IsLater (e.seq + 1) new.held → AreBooks limits later new
books-push limits history later old new e writes are legal fits same grown held put behind =
    let L : History → Type 0 = λ h. Legal (office_of limits h) in
    let K : History → Type 0 = λ h. IsKeptAfter limits h new in
    record {
      of_limits = are.of_limits;
      legal = subst L (sym grown) legal;
      of_table = subst K (sym grown) (kept-push limits history old new e writes are.of_table fits.0 same held put behind);
    }
