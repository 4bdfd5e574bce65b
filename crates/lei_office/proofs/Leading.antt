-- Stored entries that are read page by page.
use Rattle.std.proofs.Common.{◌≡◌, ℕ, ◌<◌, ◌≤◌, ◌+◌, ◌-◌, ◌&&◌, nat_le, nat_lt, Bool, true, false, cond, [], ◌∷◌, ◌++◌, length, filter, refl, sym, ap, subst, ◌∙◌, arith, inr, append-nil, append_assoc, length-append, slice_get, zero, suc, get_or, take, drop, drop-cons, take-append-drop, add-one}
use Rattle.std.specs.Prelude.{◌≢◌}
use Rattle.std.proofs.lemmas.Bool.{leb-false, leb-true, ltb-true}
use Rattle.std.proofs.lemmas.Bool.Decides.{nat_tests}
use Rattle.lei_values.specs.KeptTables.{AreKept, KeptTables, RiseFrom, entries_between, entry_number, last_number}
use Rattle.lei_values.specs.declared.entry.KeptEntry.{KeptEntry}
use Rattle.upload_ledger.specs.History.{History, last_entry}
use Rattle.register_history.specs.declared.damage.Damage.{Damage}
use Rattle.register_words.specs.declared.limits.Limits.{Limits}
use Rattle.register_history.specs.Damage.{EntryDiffers, IsEntryDamage, missing_entry}
use Rattle.register_history.specs.Legal.{Legal, LegalAfter}
use Rattle.lei_office.specs.Opening.{IsPageDamage, NextDiffers}
use Rattle.register_history.specs.State.{OfficeState, office_of}
use Rattle.register_state.specs.Books.{office_with_entry}
use Rattle.register_history.proofs.AskedFor.{next-seq}
use Rattle.register_history.proofs.Histories.{last_entry-push}

-- ---- entries of a range of numbers

between : ℕ → ℕ → History → History
between after upto list = filter (λ e. nat_lt after e.seq && nat_le e.seq upto) list

none-low : (a m : ℕ) (es : History) → a ≤ m → RiseFrom m es → between 0 a es ≡ []
unfolding between
none-low a m [] low rise = refl
none-low a m (e ∷ es) low rise =
    let late : nat_le e.seq a ≡ false = (let more = rise.0 in grind (arith, nat_tests)) in
    rw late (elim (nat_lt 0 e.seq) as (λ b. cond (b && false) (e ∷ between 0 a es) (between 0 a es) ≡ []) [
      | true ↦ none-low a e.seq es (let more = rise.0 in omega (arith, more, low)) rise.1
      | false ↦ none-low a e.seq es (let more = rise.0 in omega (arith, more, low)) rise.1
    ])

same-high : (a b m : ℕ) (es : History) → a ≤ m → RiseFrom m es → between 0 b es ≡ between a b es
unfolding between
same-high a b m [] low rise = refl
same-high a b m (e ∷ es) low rise =
    let more = rise.0 in
    let zero_below : nat_lt 0 e.seq ≡ true = grind (arith, nat_tests) in
    let a_below : nat_lt a e.seq ≡ true = grind (arith, nat_tests) in
    let rest = same-high a b e.seq es (omega (arith, more, low)) rise.1 in
    rw (zero_below, a_below) (ap (λ l. cond (nat_le e.seq b) (e ∷ l) l) rest)

split : (a b m : ℕ) (es : History) → a ≤ b → RiseFrom m es → between 0 b es ≡ between 0 a es ++ between a b es
unfolding between
split a b m [] up rise = refl
split a b m (e ∷ es) up rise =
    let more = rise.0 in
    let zero_below : nat_lt 0 e.seq ≡ true = grind (arith, nat_tests) in
    elim (nat_le e.seq a) as (λ t. nat_le e.seq a ≡ t → between 0 b (e ∷ es) ≡ between 0 a (e ∷ es) ++ between a b (e ∷ es)) [
      | true ↦ λ early.
          let few = leb-true e.seq a early in
          let in_b : nat_le e.seq b ≡ true = grind (arith, nat_tests) in
          let not_after : nat_lt a e.seq ≡ false = grind (arith, nat_tests) in
          rw (zero_below, early, in_b, not_after) (ap (λ l. e ∷ l) (split a b e.seq es up rise.1))
      | false ↦ λ late.
          let above = leb-false e.seq a late in
          let a_below : nat_lt a e.seq ≡ true = grind (arith, nat_tests) in
          let rest = same-high a b e.seq es (omega (arith, above)) rise.1 in
          rw (zero_below, late, a_below) (ap (λ l. cond (nat_le e.seq b) (e ∷ l) l) rest
          ∙ ap (λ l. l ++ cond (nat_le e.seq b) (e ∷ between a b es) (between a b es)) (sym (none-low a e.seq es (omega (arith, above)) rise.1)))
    ] refl

-- ---- the last number

last_from : ℕ → History → ℕ
last_from number [] = number
last_from number (e ∷ list) = last_from e.seq list

last-is : (e : KeptEntry) (list : History) → entry_number (slice_get (e ∷ list) (length list)) ≡ last_from e.seq list
unfolding last_from
last-is e [] = refl
last-is e (next ∷ list) = last-is next list

last-of : (list : History) → entry_number (slice_get list (length list - 1)) ≡ last_from 0 list
unfolding last_from
last-of [] = refl
last-of (e ∷ list) =
    let before : length (e ∷ list) - 1 ≡ length list = omega arith in
    ap (λ n. entry_number (slice_get (e ∷ list) n)) before ∙ last-is e list

rises : (m : ℕ) (es : History) → RiseFrom m es → m ≤ last_from m es
unfolding last_from
rises m [] rise = omega arith
rises m (e ∷ es) rise = let more = rise.0 in let rest = rises e.seq es rise.1 in omega (arith, more, rest)

whole : (m last : ℕ) (es : History) → RiseFrom m es → last_from m es ≤ last → between 0 last es ≡ es
unfolding between last_from
whole m last [] rise most = refl
whole m last (e ∷ es) rise most =
    let more = rise.0 in
    let up = rises e.seq es rise.1 in
    let zero_below : nat_lt 0 e.seq ≡ true = grind (arith, nat_tests) in
    let few : nat_le e.seq last ≡ true = grind (arith, nat_tests) in
    rw (zero_below, few) (ap (λ l. e ∷ l) (whole e.seq last es rise.1 most))

-- the entries up to the last number are all stored entries
pub all-entries : (tables : KeptTables) → AreKept tables → entries_between 0 (last_number tables) tables ≡ tables.entries
unfolding between
all-entries tables kept = whole 0 (last_number tables) tables.entries kept.entries (omega (arith, last-of tables.entries))

-- the entries up to a number, followed by those of the next page, are those up to the page's end
pub page-behind : (after upto : ℕ) (tables : KeptTables) → AreKept tables → after ≤ upto → entries_between 0 upto tables ≡ entries_between 0 after tables ++ entries_between after upto tables
unfolding between
page-behind after upto tables kept up = split after upto 0 tables.entries up kept.entries

-- the first entry that is found in a range has a number in it
head-passes : (upto last : ℕ) (es rest : History) (e : KeptEntry) → between upto last es ≡ e ∷ rest → upto < e.seq
unfolding between
head-passes upto last [] rest e is = cc
head-passes upto last (f ∷ es) rest e is =
    elim (nat_lt upto f.seq && nat_le f.seq last) as (λ b. nat_lt upto f.seq && nat_le f.seq last ≡ b → cond b (f ∷ between upto last es) (between upto last es) ≡ e ∷ rest → upto < e.seq) [
      | true ↦ λ passes found.
          let own : f ≡ e = cc in
          let low = ltb-true upto f.seq (first_true (nat_lt upto f.seq) (nat_le f.seq last) passes) in
          subst (λ x. upto < x.seq) own low
      | false ↦ λ _ found. head-passes upto last es rest e found
    ] refl is
  where
    first_true : (p q : Bool) → p && q ≡ true → p ≡ true
    first_true true q is = refl
    first_true false q is = cc

-- ---- the last number of a legal history

last-legal : (limits : Limits) (before rest : History) → LegalAfter limits before rest → entry_number (last_entry before) ≡ length before → entry_number (last_entry (before ++ rest)) ≡ length (before ++ rest)
last-legal limits before [] legal last = subst (λ h. entry_number (last_entry h) ≡ length h) (sym (append-nil before)) last
last-legal limits before (e ∷ rest) legal last =
    let number = next-seq limits before e legal.0 in
    let now : entry_number (last_entry (before ++ e ∷ [])) ≡ length (before ++ e ∷ []) = ap entry_number (last_entry-push before e) ∙ omega (arith, number, length-append before (e ∷ [])) in
    subst (λ h. entry_number (last_entry h) ≡ length h) (append_assoc before (e ∷ []) rest) (last-legal limits (before ++ e ∷ []) rest legal.1 now)

pub legal-last : (limits : Limits) (history : History) → Legal (office_of limits history) → entry_number (last_entry history) ≡ length history
unfolding Legal
legal-last limits history legal = last-legal limits [] history legal refl

-- ---- damage of a page is damage of all entries

pub page-damage : (limits : Limits) (after upto last : ℕ) (before : History) (tables : KeptTables) (damage : Damage) → AreKept tables → last ≡ last_number tables → after ≤ upto → upto ≤ last
    → before ≡ entries_between 0 after tables → IsPageDamage limits before (entries_between after upto tables) upto damage → IsEntryDamage limits tables.entries damage
unfolding between
page-damage limits after upto last before tables damage kept is_last up most is_before is =
    let beyond = entries_between upto (last_number tables) tables in
    let most_last : upto ≤ last_number tables = omega (arith, most, is_last) in
    let whole_is : tables.entries ≡ entries_between 0 upto tables ++ beyond = sym (all-entries tables kept) ∙ page-behind upto (last_number tables) tables kept most_last in
    let upto_is : entries_between 0 upto tables ≡ before ++ (is.front ++ is.rest) = page-behind after upto tables kept up ∙ (ap (λ l. l ++ entries_between after upto tables) (sym is_before) ∙ ap (λ l. before ++ l) is.are) in
    let front_is : tables.entries ≡ (before ++ is.front) ++ (is.rest ++ beyond) =
    whole_is ∙ (ap (λ l. l ++ beyond) (upto_is ∙ sym (append_assoc before is.front is.rest)) ∙ append_assoc (before ++ is.front) is.rest beyond) in
    by_rest is.rest beyond refl front_is is.differs
  where
    by_beyond : (beyond : History) → entries_between upto (last_number tables) tables ≡ beyond → tables.entries ≡ (before ++ is.front) ++ beyond → length (before ++ is.front) + 1 ≤ upto
        → damage ≡ missing_entry (length (before ++ is.front) + 1) → IsEntryDamage limits tables.entries damage
    by_beyond [] none are below missed =
        let ended = ap (λ l. entry_number (last_entry l)) (are ∙ append-nil (before ++ is.front)) ∙ legal-last limits (before ++ is.front) is.legal in
        absurd (omega (arith, ended, below, most, is_last))
    by_beyond (e ∷ beyond) some are below missed =
        let above = head-passes upto (last_number tables) tables.entries beyond e some in
        let other : e.seq ≢ length (before ++ is.front) + 1 = λ same. omega (arith, same, above, below) in
        record { before = before ++ is.front; next = e; rest = beyond; are = are; legal = is.legal; differs = inr (other, missed) }

    by_rest : (rest beyond : History) → entries_between upto (last_number tables) tables ≡ beyond → tables.entries ≡ (before ++ is.front) ++ (rest ++ beyond)
        → NextDiffers (office_of limits (before ++ is.front)) (length (before ++ is.front) + 1) upto rest damage → IsEntryDamage limits tables.entries damage
    by_rest [] beyond is_beyond are differs = by_beyond beyond is_beyond are differs.0 differs.1
    by_rest (e ∷ rest) beyond is_beyond are differs = record { before = before ++ is.front; next = e; rest = rest ++ beyond; are = are; legal = is.legal; differs = differs }

-- ---- a page that is replayed

-- a page is what precedes a place, the entry there, and the rest
cut-at : (page : History) (i : ℕ) (stored : KeptEntry) → i < length page → get_or page i stored ≡ stored → page ≡ take i page ++ stored ∷ drop (suc i) page
cut-at page i stored within at = sym (take-append-drop i page) ∙ ap (λ l. take i page ++ l) (drop-cons page i stored within ∙ ap (λ e. e ∷ drop (suc i) page) at)

take-more : (page : History) (i : ℕ) (stored : KeptEntry) → i < length page → get_or page i stored ≡ stored → take (suc i) page ≡ take i page ++ stored ∷ []
take-more [] i stored within at = absurd (omega (arith, within))
take-more (e ∷ page) zero stored within at = ap (λ x. x ∷ []) at
take-more (e ∷ page) (suc i) stored within at = ap (λ l. e ∷ l) (take-more page i stored (omega (arith, within)) at)

-- the entry there isn't what the replay makes, or another entry is there
pub page-differs : (before : OfficeState) (page : History) (now : OfficeState) (upto i : ℕ) (stored : KeptEntry) (damage : Damage) → i < length page → get_or page i stored ≡ stored
    → now ≡ office_of before.limits (before.history ++ take i page) → Legal now → EntryDiffers now (length now.history + 1) stored damage → IsPageDamage before.limits before.history page upto damage
page-differs before page now upto i stored damage within at grown legal differs = record {
  front = take i page;
  rest = stored ∷ drop (suc i) page;
  are = cut-at page i stored within at;
  legal = subst Legal grown legal;
  differs = subst (λ o. EntryDiffers o (length o.history + 1) stored damage) grown differs;
}

-- after a page no entry is stored
pub page-lacks : (before : OfficeState) (page : History) (now : OfficeState) (upto : ℕ) (damage : Damage) → now ≡ office_of before.limits (before.history ++ page) → Legal now
    → length now.history + 1 ≤ upto → damage ≡ missing_entry (length now.history + 1) → IsPageDamage before.limits before.history page upto damage
page-lacks before page now upto damage grown legal few missed = record {
  front = page;
  rest = [];
  are = sym (append-nil page);
  legal = subst Legal grown legal;
  differs = subst (λ o. (length o.history + 1 ≤ upto) × (damage ≡ missing_entry (length o.history + 1))) grown (few, missed);
}

-- one more entry was replayed
pub page-grows : (before : OfficeState) (page : History) (now later : OfficeState) (i : ℕ) (stored : KeptEntry) → i < length page → get_or page i stored ≡ stored
    → now ≡ office_of before.limits (before.history ++ take i page) → later ≡ office_with_entry now stored → later ≡ office_of before.limits (before.history ++ take (i + 1) page)
page-grows before page now later i stored within at grown added =
    let history = before.history in
    let more : (history ++ take i page) ++ stored ∷ [] ≡ history ++ take (i + 1) page =
    append_assoc history (take i page) (stored ∷ []) ∙ ap (λ l. history ++ l) (sym (take-more page i stored within at) ∙ ap (λ n. take n page) (sym (add-one i))) in
    added ∙ (ap (λ o. office_with_entry o stored) grown ∙ ap (office_of before.limits) more)
