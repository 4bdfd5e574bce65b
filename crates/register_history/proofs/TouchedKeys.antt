-- The keys that a publication counts as touched are those of the items that were accepted since the previous one.
use Rattle.std.proofs.Common.{◌≡◌, ℕ, ◌+◌, ◌<◌, ◌||◌, nat_lt, List, [], ◌∷◌, ◌++◌, length, Bool, true, false, cond, Option, Some, None, refl, sym, ap, subst, ◌∙◌, arith, append-nil, append_assoc}
use Rattle.std.specs.Prelude.{is_some}
use Rattle.std.specs.FinMap.{get, get-empty, get-insert}
use Rattle.std.specs.Ordering.{eq_by_cmp}
use Rattle.std.proofs.lemmas.Bool.{false≢true, lt-ltb, ltb-true}
use Rattle.std.proofs.lemmas.List.Folds.{list_any-append}
use Rattle.authority_rules.proofs.HolderLemmas.{keys_total}
use Rattle.lei_values.specs.declared.entry.KeptEntry.{KeptEntry}
use Rattle.lei_records.specs.Tables.{KeyTexts, key_cmp}
use Rattle.register_words.specs.declared.sheets.Sheet.{Sheet}
use Rattle.copy_forms.specs.Trails.{is_key_among}
use Rattle.register_table.specs.Held.{Cell, Held, cell_key, rows}
use Rattle.register_table.specs.Undos.{WriteList, cell_with, touch, touch_all}
use Rattle.upload_ledger.specs.History.{History}
use Rattle.register_words.specs.declared.limits.Limits.{Limits}
use Rattle.register_history.specs.Legal.{Legal, LegalAfter}
use Rattle.register_history.specs.Publications.{TouchedKeysWereAccepted, key_within, keys_accepted, keys_accepted_since, keys_written, last_published}
use Rattle.register_history.specs.Register.{after, entry_writes, held_after}
use Rattle.register_history.specs.Standing.{AreRowCells}
use Rattle.register_history.specs.State.{OfficeState, office_of}
use Rattle.register_history.proofs.AskedFor.{next-seq}
use Rattle.register_history.proofs.Histories.{Legal-push}
use Rattle.register_history.proofs.NextIssue.{among-keys, among-new}
use Rattle.register_history.proofs.Stored.{held-stands}
use Rattle.register_history.proofs.TableLemmas.{have_the_rows, held-push}
use Rattle.register_history.proofs.UntouchedKeys.{cell_at, is_new}

-- ---- one write

-- the cell's key is the given one exactly if the sheet's key is
pub within-same : (sheet : Sheet) (k q : KeyTexts) → is_key_among k (key_within sheet q) ≡ eq_by_cmp key_cmp (cell_at sheet k) q
within-same sheet k q =
    ap (is_key_among k) (sym (append-nil (key_within sheet q)))
    ∙ (among-keys sheet ((q, some_cell) ∷ []) k ∙ by (eq_by_cmp key_cmp (cell_at sheet k) q))
  where
    some_cell : Cell
    some_cell = record { entry = 0; row = None }

    by : (b : Bool) → is_some (cond b (Some some_cell) None) ≡ b
    by true = refl
    by false = refl

-- how the writes of an entry change whether a cell is newer
written-new : (after number : ℕ) (writes : WriteList) (held : Held) (sheet : Sheet) (k : KeyTexts)
    → is_new after (get (touch_all number writes held) (cell_at sheet k))
    ≡ cond (is_key_among k (keys_written sheet writes)) (nat_lt after number) (is_new after (get held (cell_at sheet k)))
written-new after number [] held sheet k = refl
written-new after number (write ∷ writes) held sheet k =
    written-new after number writes (touch number held write) sheet k
    ∙ (ap (λ found. cond (is_key_among k (keys_written sheet writes)) (nat_lt after number) (is_new after found)) here
    ∙ (by (eq_by_cmp key_cmp (cell_at sheet k) (cell_key write.0)) (is_key_among k (keys_written sheet writes))
    ∙ ap (λ b. cond b (nat_lt after number) (is_new after (get held (cell_at sheet k)))) (sym among)))
  where
    here : get (touch number held write) (cell_at sheet k)
        ≡ cond (eq_by_cmp key_cmp (cell_at sheet k) (cell_key write.0)) (Some (cell_with number write.1)) (get held (cell_at sheet k))
    here = get-insert keys_total held (cell_key write.0) (cell_with number write.1) (cell_at sheet k)

    among : is_key_among k (keys_written sheet (write ∷ writes))
        ≡ (eq_by_cmp key_cmp (cell_at sheet k) (cell_key write.0) || is_key_among k (keys_written sheet writes))
    among = list_any-append (eq_by_cmp key_cmp k) (key_within sheet (cell_key write.0)) (keys_written sheet writes)
        ∙ ap (λ b. b || is_key_among k (keys_written sheet writes)) (within-same sheet k (cell_key write.0))

    by : (own later : Bool)
        → cond later (nat_lt after number) (is_new after (cond own (Some (cell_with number write.1)) (get held (cell_at sheet k))))
        ≡ cond (own || later) (nat_lt after number) (is_new after (get held (cell_at sheet k)))
    by true true = refl
    by true false = refl
    by false true = refl
    by false false = refl

-- ---- one entry

-- a cell that is newer than a number was touched by one of the entries up to the last
newer-last : (after last : ℕ) (held : Held) (q : KeyTexts) → AreRowCells last held → is_new after (get held q) ≡ true → after < last + 1
newer-last after last held q all = by (get held q) refl
  where
    by : (found : Option Cell) → get held q ≡ found → is_new after found ≡ true → after < last + 1
    by None is new = absurd (false≢true new)
    by (Some cell) is new =
        let more : after < cell.entry = ltb-true after cell.entry new in
        let most = (all q cell is).most in
        omega (arith, more, most)

entry-new : (after : ℕ) (limits : Limits) (before : History) (e : KeptEntry) (sheet : Sheet) (k : KeyTexts)
    → Legal (office_of limits before) → e.seq ≡ length before + 1
    → is_new after (get (held_after limits (before ++ e ∷ [])) (cell_at sheet k))
    ≡ (is_key_among k (cond (nat_lt after e.seq) (keys_accepted limits before e sheet) []) || is_new after (get (held_after limits before) (cell_at sheet k)))
entry-new after limits before e sheet k legal number =
    ap (λ held. is_new after (get held (cell_at sheet k))) (held-push limits before e)
    ∙ (written-new after e.seq (entry_writes limits (rows (held_after limits before)) e) (held_after limits before) sheet k
    ∙ (ap (λ table. cond (is_key_among k (keys_written sheet (entry_writes limits table e))) (nat_lt after e.seq) old) (have_the_rows (office_of limits before))
    ∙ by (is_key_among k (keys_accepted limits before e sheet)) (nat_lt after e.seq) old refl refl refl))
  where
    old : Bool
    old = is_new after (get (held_after limits before) (cell_at sheet k))

    by : (own later found : Bool) → is_key_among k (keys_accepted limits before e sheet) ≡ own → nat_lt after e.seq ≡ later → old ≡ found
        → cond own later found ≡ (is_key_among k (cond later (keys_accepted limits before e sheet) []) || found)
    by own true true is late new = cond-true own ∙ sym (or-true (is_key_among k (keys_accepted limits before e sheet)))
      where
        cond-true : (b : Bool) → cond b true true ≡ true
        cond-true true = refl
        cond-true false = refl

        or-true : (b : Bool) → (b || true) ≡ true
        or-true true = refl
        or-true false = refl
    by true true false is late new = ap (λ b. b || false) (sym is)
    by false true false is late new = ap (λ b. b || false) (sym is)
    by true false false is late new = refl
    by false false found is late new = refl
    by true false true is late new =
        let newer = newer-last after (length before) (held_after limits before) (cell_at sheet k) (held-stands limits before legal) new in
        let least : after < e.seq = omega (arith, newer, number) in
        absurd (false≢true (sym late ∙ lt-ltb after e.seq least))

-- ---- all entries

accepted-new : (after : ℕ) (limits : Limits) (before rest : History) (sheet : Sheet) (k : KeyTexts)
    → Legal (office_of limits before) → LegalAfter limits before rest
    → is_new after (get (held_after limits (before ++ rest)) (cell_at sheet k))
    ≡ (is_key_among k (keys_accepted_since after limits before rest sheet) || is_new after (get (held_after limits before) (cell_at sheet k)))
accepted-new after limits before [] sheet k legal next = ap (λ history. is_new after (get (held_after limits history) (cell_at sheet k))) (append-nil before)
accepted-new after limits before (e ∷ rest) sheet k legal next =
    ap (λ history. is_new after (get (held_after limits history) (cell_at sheet k))) (sym (append_assoc before (e ∷ []) rest))
    ∙ (accepted-new after limits (before ++ e ∷ []) rest sheet k (Legal-push limits before e legal next.0) next.1
    ∙ (ap (λ b. is_key_among k later || b) (entry-new after limits before e sheet k legal (next-seq limits before e next.0))
    ∙ (swapped (is_key_among k later) (is_key_among k own) (is_new after (get (held_after limits before) (cell_at sheet k)))
    ∙ ap (λ b. b || is_new after (get (held_after limits before) (cell_at sheet k))) (sym (list_any-append (eq_by_cmp key_cmp k) own later)))))
  where
    own : List KeyTexts
    own = cond (nat_lt after e.seq) (keys_accepted limits before e sheet) []

    later : List KeyTexts
    later = keys_accepted_since after limits (before ++ e ∷ []) rest sheet

    swapped : (a b c : Bool) → (a || (b || c)) ≡ ((b || a) || c)
    swapped true true c = refl
    swapped true false c = refl
    swapped false true c = refl
    swapped false false c = refl

legal-accepted : (after : ℕ) (limits : Limits) (history : History) (sheet : Sheet) (k : KeyTexts) → LegalAfter limits [] history
    → is_new after (get (held_after limits history) (cell_at sheet k)) ≡ is_key_among k (keys_accepted_since after limits [] history sheet)
unfolding Legal held_after
legal-accepted after limits history sheet k legal =
    accepted-new after limits [] history sheet k tt legal
    ∙ (ap (λ found. is_key_among k (keys_accepted_since after limits [] history sheet) || is_new after found) (get-empty key_cmp (cell_at sheet k))
    ∙ or-false (is_key_among k (keys_accepted_since after limits [] history sheet)))
  where
    or-false : (b : Bool) → (b || false) ≡ b
    or-false true = refl
    or-false false = refl

-- the entries at the front of a legal history are a legal history
front-legal : (limits : Limits) (before first rest : History) → LegalAfter limits before (first ++ rest) → LegalAfter limits before first
front-legal limits before [] rest legal = tt
front-legal limits before (e ∷ first) rest legal = (legal.0, front-legal limits (before ++ e ∷ []) first rest legal.1)

pub touched-accepted : (office : OfficeState) → Legal office → TouchedKeysWereAccepted office
unfolding Legal
touched-accepted office legal before rest e sheet k is =
    let front : LegalAfter office.limits [] before = front-legal office.limits [] before (e ∷ rest) (subst (LegalAfter office.limits []) is legal) in
    among-new (last_published before) (length before) (held_after office.limits before) sheet k (held-stands office.limits before front)
    ∙ legal-accepted (last_published before) office.limits before sheet k front
