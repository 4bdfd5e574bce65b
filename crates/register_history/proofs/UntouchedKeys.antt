-- Under a key that no entry touched after the latest publication is what was published.
use Rattle.std.proofs.Common.{◌≡◌, ◌⊎◌, inl, inr, ℕ, ◌+◌, ◌<◌, ◌≤◌, ◌==◌, nat_lt, [], ◌∷◌, ◌++◌, length, Bool, true, false, cond, Option, Some, None, refl, sym, ap, subst, ◌∙◌, arith, append-nil, append_assoc, length-append, unwrap_or}
use Rattle.std.specs.FinMap.{get, get-empty, get-insert}
use Rattle.std.specs.Ordering.{eq_by_cmp}
use Rattle.std.proofs.lemmas.Bool.{eqb-true, false≢true, lt-ltb}
use Rattle.std.proofs.lemmas.List.Elements.{filter-append}
use Rattle.authority_rules.proofs.HolderLemmas.{keys_total}
use Rattle.lei_values.specs.KeptTables.{entry_number}
use Rattle.lei_values.specs.declared.entry.KeptEntry.{KeptEntry}
use Rattle.lei_records.specs.Tables.{KeyTexts, key_cmp}
use Rattle.register_words.specs.declared.sheets.Sheet.{Sheet}
use Rattle.copy_forms.specs.Trails.{nothing_published, row_under}
use Rattle.golden_shelf.specs.Shelves.{latest_rows}
use Rattle.register_table.specs.Held.{Cell, Held, cell_key, row_in, rows}
use Rattle.register_table.specs.Undos.{WriteList, cell_with, touch, touch_all}
use Rattle.register_table.proofs.RowsLemmas.{exception_at, record_at, relation_at}
use Rattle.upload_ledger.specs.History.{History, is_publication, is_upload, last_entry, publications}
use Rattle.register_words.specs.declared.limits.Limits.{Limits}
use Rattle.register_history.specs.Legal.{Legal, LegalAfter}
use Rattle.register_history.specs.Publications.{cell_kind, last_published, sheet_rows, trail}
use Rattle.register_history.specs.Register.{after, entry_items, entry_writes, held_after, held_after_entry, take_items}
use Rattle.register_history.specs.State.{office_of}
use Rattle.register_history.proofs.AskedFor.{next-seq}
use Rattle.register_history.proofs.Histories.{after-push, last_entry-push}
use Rattle.register_history.proofs.PublishedRows.{published_at, published_row, rows-found}
use Rattle.register_history.proofs.Registers.{after-fit}
use Rattle.register_history.proofs.TableLemmas.{have_the_rows, held-push}
use Rattle.register_history.proofs.TrailGrowth.{trail-made, trail-same}

-- ---- rows by cells

-- the key of the cell of a row's key
abbrev pub cell_at : Sheet → KeyTexts → KeyTexts
cell_at sheet k = cell_kind sheet ∷ k

rows-cell : (held : Held) (sheet : Sheet) (k : KeyTexts) → get (sheet_rows (rows held) sheet) k ≡ row_in (get held (cell_at sheet k))
rows-cell held Sheet.Lei k = record_at held k
rows-cell held Sheet.Rr k = relation_at held k
rows-cell held Sheet.Repex k = exception_at held k

-- what the register has under a key is what its cell has
pub table-cell : (limits : Limits) (history : History) (sheet : Sheet) (k : KeyTexts)
    → get (sheet_rows (after limits history) sheet) k ≡ row_in (get (held_after limits history) (cell_at sheet k))
table-cell limits history sheet k =
    ap (λ t. get (sheet_rows t sheet) k) (sym (have_the_rows (office_of limits history))) ∙ rows-cell (held_after limits history) sheet k

-- so what is published under a key is that of its cell
pub published-cell : (limits : Limits) (history : History) (sheet : Sheet) (k : KeyTexts)
    → published_at (after limits history) sheet k ≡ published_row sheet (row_in (get (held_after limits history) (cell_at sheet k)))
published-cell limits history sheet k = ap (published_row sheet) (table-cell limits history sheet k)

-- ---- what an entry leaves of a cell

-- the cell is as it was, or has the entry's number
touched-or : (number : ℕ) (writes : WriteList) (held : Held) (q : KeyTexts)
    → (get (touch_all number writes held) q ≡ get held q) ⊎ ((cell : Cell) × (get (touch_all number writes held) q ≡ Some cell) × (cell.entry ≡ number))
touched-or number [] held q = inl refl
touched-or number (write ∷ writes) held q = by (touched-or number writes (touch number held write) q)
  where
    all : Option Cell
    all = get (touch_all number writes (touch number held write)) q

    new : Cell
    new = cell_with number write.1

    here : all ≡ get (touch number held write) q → (all ≡ get held q) ⊎ ((cell : Cell) × (all ≡ Some cell) × (cell.entry ≡ number))
    here same = at (eq_by_cmp key_cmp q (cell_key write.0)) (same ∙ get-insert keys_total held (cell_key write.0) new q)
      where
        at : (b : Bool) → all ≡ cond b (Some new) (get held q) → (all ≡ get held q) ⊎ ((cell : Cell) × (all ≡ Some cell) × (cell.entry ≡ number))
        at true is = inr (new, is, refl)
        at false is = inl is

    by : (all ≡ get (touch number held write) q) ⊎ ((cell : Cell) × (all ≡ Some cell) × (cell.entry ≡ number))
        → (all ≡ get held q) ⊎ ((cell : Cell) × (all ≡ Some cell) × (cell.entry ≡ number))
    by (inl same) = here same
    by (inr found) = inr found

-- the number of the cell, if there is one, is greater
abbrev pub is_new : ℕ → Option Cell → Bool
is_new number None = false
is_new number (Some cell) = nat_lt number cell.entry

-- ---- one more entry

-- the last publication is one of the entries, and a key whose cell isn't newer has the row that was published
pub record KeepsRows (limits : Limits) (history : History) : Type 0 where
  pub few : last_published history ≤ length history
  pub kept : (sheet : Sheet) (k : KeyTexts) → is_new (last_published history) (get (held_after limits history) (cell_at sheet k)) ≡ false
      → row_under (latest_rows (trail (office_of limits history)) sheet) k ≡ published_at (after limits history) sheet k

publications-push : (history : History) (e : KeptEntry) → publications (history ++ e ∷ []) ≡ publications history ++ cond (is_publication e) (e ∷ []) []
publications-push history e = filter-append is_publication history (e ∷ [])

no_upload : (e : KeptEntry) → is_publication e ≡ true → is_upload e ≡ false
no_upload e is = let kind : e.kind ≡ 3 = eqb-true e.kind 3 is in ap (λ k. k == 2) kind

-- a publication has all rows
made-push : (limits : Limits) (history : History) (e : KeptEntry) → e.seq ≡ length history + 1 → is_publication e ≡ true → KeepsRows limits (history ++ e ∷ [])
made-push limits history e number is =
    let made : publications (history ++ e ∷ []) ≡ publications history ++ e ∷ [] = publications-push history e ∙ ap (λ b. publications history ++ cond b (e ∷ []) []) is in
    let last : last_published (history ++ e ∷ []) ≡ e.seq = ap (λ p. entry_number (last_entry p)) made ∙ ap entry_number (last_entry-push (publications history) e) in
    let count = length-append history (e ∷ []) in
    let same : after limits (history ++ e ∷ []) ≡ after limits history = after-push limits history e ∙ ap (λ b. cond b (take_items limits (after limits history) e (entry_items e)).table (after limits history)) (no_upload e is) in
    record {
      few = omega (arith, last, number, count);
      kept = λ sheet k old.
          ap (λ o. row_under ((unwrap_or o nothing_published).rows sheet) k) (trail-made limits history e is)
          ∙ (rows-found (after limits history) sheet k (after-fit limits history).sound ∙ ap (λ t. published_at t sheet k) (sym same));
    }

-- another entry touches keys that are new afterwards
other-push : (limits : Limits) (history : History) (e : KeptEntry) → e.seq ≡ length history + 1 → is_publication e ≡ false → KeepsRows limits history
    → KeepsRows limits (history ++ e ∷ [])
other-push limits history e number is keeps =
    let count = length-append history (e ∷ []) in
    record {
      few = (let before = keeps.few in omega (arith, last, before, count));
      kept = λ sheet k old. by sheet k (ap (λ n. is_new n (get (held_after limits (history ++ e ∷ [])) (cell_at sheet k))) (sym last) ∙ old)
          (touched-or e.seq (entry_writes limits (rows held) e) held (cell_at sheet k));
    }
  where
    held : Held
    held = held_after limits history

    made : publications (history ++ e ∷ []) ≡ publications history
    made = publications-push history e ∙ (ap (λ b. publications history ++ cond b (e ∷ []) []) is ∙ append-nil (publications history))

    last : last_published (history ++ e ∷ []) ≡ last_published history
    last = ap (λ p. entry_number (last_entry p)) made

    by : (sheet : Sheet) (k : KeyTexts) → is_new (last_published history) (get (held_after limits (history ++ e ∷ [])) (cell_at sheet k)) ≡ false
        → (get (held_after_entry limits held e) (cell_at sheet k) ≡ get held (cell_at sheet k))
        ⊎ ((cell : Cell) × (get (held_after_entry limits held e) (cell_at sheet k) ≡ Some cell) × (cell.entry ≡ e.seq))
        → row_under (latest_rows (trail (office_of limits (history ++ e ∷ []))) sheet) k ≡ published_at (after limits (history ++ e ∷ [])) sheet k
    by sheet k old (inl stays) =
        let cell : get (held_after limits (history ++ e ∷ [])) (cell_at sheet k) ≡ get held (cell_at sheet k) =
        ap (λ h. get h (cell_at sheet k)) (held-push limits history e) ∙ stays in
        ap (λ t. row_under (latest_rows t sheet) k) (trail-same limits history e is)
        ∙ (keeps.kept sheet k (ap (is_new (last_published history)) (sym cell) ∙ old)
        ∙ (published-cell limits history sheet k
        ∙ (ap (λ c. published_row sheet (row_in c)) (sym cell) ∙ sym (published-cell limits (history ++ e ∷ []) sheet k))))
    by sheet k old (inr found) =
        let cell : get (held_after limits (history ++ e ∷ [])) (cell_at sheet k) ≡ Some found.0 =
        ap (λ h. get h (cell_at sheet k)) (held-push limits history e) ∙ found.1 in
        let before = keeps.few in
        let own = found.2 in
        let less : last_published history < found.0.entry = omega (arith, before, own, number) in
        absurd (false≢true (sym old ∙ (ap (is_new (last_published history)) cell ∙ lt-ltb (last_published history) found.0.entry less)))

entry-push : (limits : Limits) (history : History) (e : KeptEntry) → e.seq ≡ length history + 1 → KeepsRows limits history → KeepsRows limits (history ++ e ∷ [])
entry-push limits history e number keeps = by (is_publication e) refl
  where
    by : (b : Bool) → is_publication e ≡ b → KeepsRows limits (history ++ e ∷ [])
    by true is = made-push limits history e number is
    by false is = other-push limits history e number is keeps

-- ---- all entries

keeps-from : (limits : Limits) (before rest : History) → LegalAfter limits before rest → KeepsRows limits before → KeepsRows limits (before ++ rest)
keeps-from limits before [] legal keeps = subst (KeepsRows limits) (sym (append-nil before)) keeps
keeps-from limits before (e ∷ rest) legal keeps =
    subst (KeepsRows limits) (append_assoc before (e ∷ []) rest)
    (keeps-from limits (before ++ e ∷ []) rest legal.1 (entry-push limits before e (next-seq limits before e legal.0) keeps))

none-kept : (limits : Limits) → KeepsRows limits []
unfolding trail held_after
none-kept limits = record {
  few = omega arith;
  kept = λ sheet k old.
      get-empty key_cmp k ∙ sym (published-cell limits [] sheet k ∙ ap (λ c. published_row sheet (row_in c)) (get-empty key_cmp (cell_at sheet k)));
}

pub legal-keeps : (limits : Limits) (history : History) → Legal (office_of limits history) → KeepsRows limits history
unfolding Legal
legal-keeps limits history legal = keeps-from limits [] history legal (none-kept limits)
