-- The table that an office keeps after one more entry.
use Rattle.std.proofs.Common.{◌≡◌, ℕ, ◌+◌, ◌≤◌, List, [], ◌∷◌, ◌++◌, fold, true, false, cond, ◌==◌, length, Option, None, Some, refl, sym, ap, subst, ◌∙◌, arith, length-append}
use Rattle.std.specs.Prelude.{IfSome, OnErr, OnOk, Result, Ok, Err}
use Rattle.lei_keeper.specs.declared.fault.KeepFault.{KeepFault}
use Rattle.register_words.specs.declared.reply.Reply.{Reply}
use Rattle.std.specs.FinMap.{empty}
use Rattle.std.specs.Str.{IsAscii}
use Rattle.std.proofs.lemmas.Bool.{leb-false, ltb-false}
use Rattle.std.proofs.lemmas.List.Sums.{fold-append, sum_by_push}
use Rattle.lei_code.specs.Code.{IsValid}
use Rattle.lei_values.specs.KeptTables.{KeptTables, entry_number, last_number, nothing_kept}
use Rattle.lei_values.specs.declared.entry.KeptEntry.{KeptEntry}
use Rattle.lei_records.specs.Tables.{Table, put_all}
use Rattle.register_judge.proofs.TakingLemmas.{take-written}
use Rattle.register_table.specs.Held.{Held, TableState, no_rows, rows}
use Rattle.register_table.specs.Undos.{AreOwn, IsLater, MayApply, StaysKept, WriteList, touch_all}
use Rattle.register_table.proofs.KeptLemmas.{later_more}
use Rattle.register_table.proofs.RowsLemmas.{rows-empty, rows-touch_all}
use Rattle.upload_format.specs.Bodies.{upload}
use Rattle.upload_ledger.specs.History.{History, kept_bytes, last_entry}
use Rattle.upload_ledger.specs.Limits.{AreFew}
use Rattle.register_words.specs.declared.limits.Limits.{Limits}
use Rattle.register_judge.specs.declared.outcome.Verdict.{Verdict}
use Rattle.register_words.specs.declared.request.Call.{Call}
use Rattle.register_history.specs.Kept.{AreTablesWith, Keeps}
use Rattle.register_words.specs.Limits.{AreLimits}
use Rattle.register_history.specs.Replies.{accreditation, is_full, is_too_much, upload_entry}
use Rattle.register_history.proofs.KeptLemmas.{nothing-of}
use Rattle.register_history.proofs.PlaceLemmas.{lei_ascii}
use Rattle.register_history.specs.Register.{CellsHaveTheRows, IsKeptAfter, after, after_entry, entry_items, entry_sitting, entry_writes, held_after, held_after_entry, take_items}
use Rattle.register_history.specs.State.{OfficeState, office_of}
use Rattle.register_history.proofs.Histories.{after-push, last_entry-push}
use Rattle.register_history.proofs.Registers.{IsFit, after-fit, entry-fit, may_put, none-fit, read-rows}
use Rattle.register_history.specs.declared.terms.EntryTerms.{EntryTerms}
use Rattle.lei_records.specs.RuleNumbers.{rules_of}

-- ---- what an entry writes

entry-put : (limits : Limits) (table : Table) (e : KeptEntry) → put_all (entry_writes limits table e) table ≡ after_entry limits table e
entry-put limits table e =
    elim (e.kind == 2) as (λ b. put_all (cond b (take_items limits table e (entry_items e)).writes []) table ≡ cond b (take_items limits table e (entry_items e)).table table) [
      | true ↦ sym (take-written table (entry_sitting limits e) (entry_items e))
      | false ↦ refl
    ]

entry-own : (limits : Limits) (table : Table) (e : KeptEntry) → IsFit limits.records table → AreOwn (entry_writes limits table e)
entry-own limits table e fit =
    elim (e.kind == 2) as (λ b. AreOwn (cond b (take_items limits table e (entry_items e)).writes [])) [
      | true ↦ (may_put table (entry_sitting limits e) (entry_items e) fit.sound fit.fits (read-rows (rules_of e.rules) (upload e.body))).own
      | false ↦ tt
    ]

entry-kept : (limits : Limits) (table : Table) (e : KeptEntry) → limits.records ≤ 4294967295 → IsFit limits.records table → StaysKept (entry_writes limits table e) table
entry-kept limits table e bound fit =
    elim (e.kind == 2) as (λ b. StaysKept (cond b (take_items limits table e (entry_items e)).writes []) table) [
      | true ↦ (may_put table (entry_sitting limits e) (entry_items e) fit.sound fit.fits (read-rows (rules_of e.rules) (upload e.body))).kept bound
      | false ↦ tt
    ]

-- it may be put into the table after a history
pub entry-may : (limits : Limits) (history : History) (table : Table) (e : KeptEntry) (writes : WriteList) → limits.records ≤ 4294967295 → table ≡ after limits history
    → writes ≡ entry_writes limits (after limits history) e → MayApply writes table
entry-may limits history table e writes bound is same =
    let fit = after-fit limits history in
    let may : MayApply (entry_writes limits (after limits history) e) (after limits history) =
    record { own = entry-own limits (after limits history) e fit; kept = entry-kept limits (after limits history) e bound fit } in
    let of_writes : MayApply writes (after limits history) = subst (λ w. MayApply w (after limits history)) (sym same) may in
    subst (MayApply writes) (sym is) of_writes

-- ---- the cells and their rows

held-step : (limits : Limits) (held : Held) (table : Table) (e : KeptEntry) → rows held ≡ table → IsFit limits.records table → rows (held_after_entry limits held e) ≡ after_entry limits table e
held-step limits held table e is fit =
    rows-touch_all e.seq (entry_writes limits (rows held) e) held (subst (λ t. AreOwn (entry_writes limits t e)) (sym is) (entry-own limits table e fit))
    ∙ (ap (λ t. put_all (entry_writes limits t e) t) is ∙ entry-put limits table e)

held-rows : (limits : Limits) (held : Held) (table : Table) (history : History) → rows held ≡ table → IsFit limits.records table
    → rows (fold (held_after_entry limits) held history) ≡ fold (after_entry limits) table history
held-rows limits held table [] is fit = is
held-rows limits held table (e ∷ history) is fit =
    held-rows limits (held_after_entry limits held e) (after_entry limits table e) history (held-step limits held table e is fit) (entry-fit limits table e fit)

pub have_the_rows : (office : OfficeState) → CellsHaveTheRows office
unfolding after held_after
have_the_rows office = held-rows office.limits empty no_rows office.history rows-empty (none-fit office.limits.records)

pub held-push : (limits : Limits) (history : History) (e : KeptEntry) → held_after limits (history ++ e ∷ []) ≡ held_after_entry limits (held_after limits history) e
unfolding held_after
held-push limits history e = fold-append (held_after_entry limits) empty history (e ∷ [])

-- ---- one more entry

pub kept-push : (limits : Limits) (history : History) (old new : TableState) (e : KeptEntry) (writes : WriteList) → IsKeptAfter limits history old → e.seq ≡ length history + 1
    → writes ≡ entry_writes limits (after limits history) e → new.held ≡ touch_all e.seq writes old.held → rows new.held ≡ put_all writes (rows old.held) → IsLater (e.seq + 1) new.held
    → IsKeptAfter limits (history ++ e ∷ []) new
kept-push limits history old new e writes kept number same held put later =
    let table = after limits history in
    let count = length-append history (e ∷ []) in
    let of_rows : rows (held_after limits history) ≡ table = have_the_rows (office_of limits history) in
    record {
      held = held ∙ (ap (λ w. touch_all e.seq w old.held) same
          ∙ (ap (touch_all e.seq (entry_writes limits table e)) kept.held
          ∙ (ap (λ t. touch_all e.seq (entry_writes limits t e) (held_after limits history)) (sym of_rows) ∙ sym (held-push limits history e))));
      rows = put ∙ (ap (λ w. put_all w (rows old.held)) same ∙ (ap (put_all (entry_writes limits table e)) kept.rows ∙ (entry-put limits table e ∙ sym (after-push limits history e))));
      numbers = later_more (e.seq + 1) (length (history ++ e ∷ []) + 1) new.held (omega (arith, count, number)) later;
      last = ap entry_number (last_entry-push history e) ∙ omega (arith, count, number);
    }

-- the table is the same
pub kept-same : (limits : Limits) (history later : History) (old new : TableState) → IsKeptAfter limits history old → later ≡ history → new.held ≡ old.held → IsKeptAfter limits later new
kept-same limits history later old new kept same held =
    let H : Held → Type 0 = λ h. IsLater (length later + 1) h in
    let L : History → Type 0 = λ l. IsLater (length l + 1) old.held in
    record {
      held = held ∙ (kept.held ∙ ap (held_after limits) (sym same));
      rows = ap rows held ∙ (kept.rows ∙ ap (after limits) (sym same));
      numbers = subst H (sym held) (subst L (sym same) kept.numbers);
      last = ap (λ l. entry_number (last_entry l)) same ∙ (kept.last ∙ ap length (sym same));
    }

-- the entry was added, or nothing was
pub kept-added : (limits : Limits) (history later : History) (old new : TableState) (e : KeptEntry) (writes : WriteList) (result : Result Reply KeepFault) → IsKeptAfter limits history old
    → e.seq ≡ length history + 1 → writes ≡ entry_writes limits (after limits history) e → OnOk result (later ≡ history ++ e ∷ []) → OnOk result (new.held ≡ touch_all e.seq writes old.held)
    → OnOk result (rows new.held ≡ put_all writes (rows old.held)) → OnOk result (IsLater (e.seq + 1) new.held) → OnErr result (later ≡ history) → OnErr result (new.held ≡ old.held)
    → IsKeptAfter limits later new
kept-added limits history later old new e writes (Ok reply) kept number same grown held put behind still stays =
    subst (λ l. IsKeptAfter limits l new) (sym grown) (kept-push limits history old new e writes kept number same held put behind)
kept-added limits history later old new e writes (Err fault) kept number same grown held put behind still stays = kept-same limits history later old new kept still stays

-- ---- what the keeper has

-- the number after the last one that it has
pub next-told : (limits : Limits) (history : History) (table : TableState) (number : ℕ) (told : Option KeptTables) → IsKeptAfter limits history table → number ≡ length history + 1
    → Keeps told (office_of limits history) → IfSome told (λ t. number ≡ last_number t + 1)
next-told limits history table number None kept is keeps = tt
next-told limits history table number (Some told) kept is keeps =
    let last : last_number told ≡ length history = ap (λ l. entry_number (last_entry l)) keeps.entries ∙ kept.last in
    omega (arith, is, last)

pub told-held : (limits : Limits) (history : History) (table : TableState) (told : Option KeptTables) → IsKeptAfter limits history table → Keeps told (office_of limits history)
    → IfSome told (AreTablesWith history table.held)
told-held limits history table told kept keeps = subst (λ h. IfSome told (AreTablesWith history h)) (sym kept.held) keeps

pub held-told : (limits : Limits) (history : History) (table : TableState) (told : Option KeptTables) → IsKeptAfter limits history table → IfSome told (AreTablesWith history table.held)
    → Keeps told (office_of limits history)
held-told limits history table told kept keeps = subst (λ h. IfSome told (AreTablesWith history h)) kept.held keeps

-- ---- an entry that is added

pub upload-next : (limits : Limits) (history : History) (call : Call) (terms : EntryTerms) (verdicts : List Verdict) (e : KeptEntry) → AreLimits limits → IsValid call.office
    → e ≡ upload_entry history call terms verdicts → is_full (office_of limits history) ≡ false → is_too_much (office_of limits history) call.body ≡ false
    → (e.seq ≡ length history + 1) × IsAscii e.office × AreFew (history ++ e ∷ [])
upload-next limits history call terms verdicts e are valid added room few =
    let entries = leb-false limits.entries (length history) room in
    let bodies = ltb-false limits.kept (kept_bytes history + length call.body) few in
    let body : length e.body ≡ length call.body = ap (λ x. length x.body) added in
    let most = are.2.1 in
    let kept = are.1.1 in (
      ap (λ x. x.seq) added,
      subst IsAscii (sym (ap (λ x. x.office) added)) (lei_ascii call.office valid),
      record {
        entries = omega (arith, entries, most, length-append history (e ∷ []));
        kept = omega (arith, bodies, kept, body, sum_by_push (λ x. length x.body) history e);
      },
    )

pub accreditation-next : (limits : Limits) (history : History) (issuer : List ℕ) (terms : EntryTerms) (e : KeptEntry) → AreLimits limits → IsValid issuer → AreFew history
    → e ≡ accreditation history issuer terms → is_full (office_of limits history) ≡ false → (e.seq ≡ length history + 1) × IsAscii e.office × AreFew (history ++ e ∷ [])
accreditation-next limits history issuer terms e are valid few added room =
    let entries = leb-false limits.entries (length history) room in
    let body : length e.body ≡ 0 = ap (λ x. length x.body) added in
    let most = are.2.1 in
    let kept = few.kept in (
      ap (λ x. x.seq) added,
      subst IsAscii (sym (ap (λ x. x.office) added)) (lei_ascii issuer valid),
      record {
        entries = omega (arith, entries, most, length-append history (e ∷ []));
        kept = omega (arith, kept, body, sum_by_push (λ x. length x.body) history e);
      },
    )

-- ---- no entry yet

pub kept-none : (limits : Limits) (table : TableState) → table.held ≡ empty → rows table.held ≡ no_rows → ((number : ℕ) → IsLater number table.held) → IsKeptAfter limits [] table
unfolding after held_after
kept-none limits table held none later = record { held = held; rows = none; numbers = later 1; last = refl }

pub keeps-none : (limits : Limits) (told : Option KeptTables) → IfSome told (λ t. t ≡ nothing_kept) → Keeps told (office_of limits [])
unfolding held_after
keeps-none limits None none = tt
keeps-none limits (Some told) none = subst (AreTablesWith [] (held_after limits [])) (sym none) (nothing-of (held_after limits []) refl)
