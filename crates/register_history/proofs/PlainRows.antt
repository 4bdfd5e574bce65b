-- Which publications are wide, and that the rows of a narrow one report no event.
use Rattle.std.proofs.Common.{◌≡◌, ℕ, ◌≤◌, ◌++◌, List, [], ◌∷◌, Bool, true, false, cond, map, Option, Some, None, refl, sym, ap, ◌∙◌, subst, append_assoc, append-nil, arith, length, unwrap_or}
use Rattle.std.specs.Prelude.{IfSome, IsTrue}
use Rattle.std.specs.FinMap.{entries, entries_sorted, get, get-entries}
use Rattle.std.specs.List.{All, AllByRecursion}
use Rattle.std.proofs.lemmas.Bool.{leb-true}
use Rattle.std.proofs.lemmas.Bool.Decides.{nat_tests}
use Rattle.std.proofs.lemmas.List.Elements.{All-cons, All-nil}
use Rattle.lei_values.specs.declared.entry.KeptEntry.{KeptEntry}
use Rattle.lei_records.specs.Cells.{lei_in}
use Rattle.lei_records.specs.Rows.{Row}
use Rattle.lei_records.specs.Tables.{KeyTexts, record_key}
use Rattle.lei_records.specs.declared.view.RowKey.{RowKey}
use Rattle.register_words.specs.declared.limits.Limits.{Limits}
use Rattle.register_words.specs.declared.sheets.Sheet.{Sheet}
use Rattle.copy_csv.specs.Sheets.{SheetRow, fits, row_of_texts}
use Rattle.copy_forms.specs.Trails.{Trail, nothing_published}
use Rattle.golden_shelf.specs.Changes.{ArePlain, KeyChanges, in_sheet}
use Rattle.golden_shelf.specs.Keys.{is_key_of, key_texts}
use Rattle.golden_shelf.specs.Shelves.{latest, latest_or_nothing}
use Rattle.register_judge.specs.Fitting.{EachRecord}
use Rattle.register_table.specs.declared.touched.Touched.{Touched}
use Rattle.upload_ledger.specs.History.{History, is_publication, last_entry}
use Rattle.register_history.specs.Legal.{Legal, LegalAfter, last_rules}
use Rattle.register_history.specs.Publications.{are_wide_rules, last_published, published_rows, sheet_rows, trail}
use Rattle.register_history.specs.Publishing.{AreNextChanges, row_change_of, row_published}
use Rattle.register_history.specs.Register.{after, held_after}
use Rattle.register_history.specs.State.{office_of}
use Rattle.register_history.proofs.Chained.{NoEvent, legal-plain}
use Rattle.register_history.proofs.Histories.{follows-within, last_entry-push}
use Rattle.register_history.proofs.NextIssue.{IsToldBy, all-told, told-found}
use Rattle.register_history.proofs.PublishedRows.{each-found, published_row, rows-found, rows_listed}
use Rattle.register_history.proofs.Registers.{after-fit}
use Rattle.register_history.proofs.TrailGrowth.{trail-made, trail-same}

-- ---- which are wide

-- if the latest publication is wide, the rules of the last entry are the third or later ones
abbrev WideBy : Trail → ℕ → Type 0
WideBy made rules = (latest_or_nothing made).wide ≡ true → 3 ≤ rules

wide-push : (limits : Limits) (before : History) (e : KeptEntry) → last_rules (last_entry before) ≤ e.rules
    → WideBy (trail (office_of limits before)) (last_rules (last_entry before)) → WideBy (trail (office_of limits (before ++ e ∷ []))) (last_rules (last_entry (before ++ e ∷ [])))
wide-push limits before e rising is =
    subst (λ o. WideBy (trail (office_of limits (before ++ e ∷ []))) (last_rules o)) (sym (last_entry-push before e)) (by (is_publication e) refl)
  where
    by : (b : Bool) → is_publication e ≡ b → WideBy (trail (office_of limits (before ++ e ∷ []))) e.rules
    by true made wide = leb-true 3 e.rules (sym (ap (λ o. (unwrap_or o nothing_published).wide) (trail-made limits before e made)) ∙ wide)
    by false other wide = (
        let low = is (ap (λ made. (latest_or_nothing made).wide) (sym (trail-same limits before e other)) ∙ wide) in
        omega (arith, low, rising))

wide-from : (limits : Limits) (before rest : History) → LegalAfter limits before rest → WideBy (trail (office_of limits before)) (last_rules (last_entry before))
    → WideBy (trail (office_of limits (before ++ rest))) (last_rules (last_entry (before ++ rest)))
wide-from limits before [] legal is =
    (let P : History → Type 0 = λ h. WideBy (trail (office_of limits h)) (last_rules (last_entry h)) in subst P (sym (append-nil before)) is)
wide-from limits before (e ∷ rest) legal is =
    let P : History → Type 0 = λ h. WideBy (trail (office_of limits h)) (last_rules (last_entry h)) in
    subst P (append_assoc before (e ∷ []) rest)
    (wide-from limits (before ++ e ∷ []) rest legal.1 (wide-push limits before e (follows-within before e.rules legal.0.4).rising is))

none-wide : (limits : Limits) → WideBy (trail (office_of limits [])) 1
unfolding trail
none-wide limits wide = cc

latest-wide : (limits : Limits) (history : History) → Legal (office_of limits history) → WideBy (trail (office_of limits history)) (last_rules (last_entry history))
unfolding Legal
latest-wide limits history legal = wide-from limits [] history legal (none-wide limits)

-- no narrow publication comes after a wide one
pub never-narrows : (limits : Limits) (history : History) (rules : ℕ) → Legal (office_of limits history) → last_rules (last_entry history) ≤ rules
    → (latest_or_nothing (trail (office_of limits history))).wide ≡ true → are_wide_rules rules ≡ true
never-narrows limits history rules legal rising wide =
    let low = latest-wide limits history legal wide in
    grind (arith, nat_tests)

-- ---- the rows of a narrow one

-- the row has nothing for the columns that only a wide file has
abbrev Plain : SheetRow → Type 0
Plain row = IsTrue (fits false row)

-- the rules of a narrow publication, and those of the entry before it, are the first or the second
narrow-rules : (before rules : ℕ) → before ≤ rules → are_wide_rules rules ≡ false → before ≤ 2
narrow-rules before rules rising narrow = grind (arith, nat_tests)

row-plain : (limits : Limits) (history : History) (k : KeyTexts) (row : Row) → EachRecord NoEvent (after limits history)
    → get (sheet_rows (after limits history) Sheet.Lei) k ≡ Some row → Plain (row_of_texts Sheet.Lei row)
row-plain limits history k row plain at =
    let keyed : k ≡ record_key (lei_in row) = (after-fit limits history).sound.keyed k row at in
    plain (lei_in row) row (subst (λ own. get (sheet_rows (after limits history) Sheet.Lei) own ≡ Some row) keyed at)

all-plain : (es : List (KeyTexts × Row)) → AllByRecursion (λ e. Plain (row_of_texts Sheet.Lei e.1)) es → All Plain (rows_listed Sheet.Lei es)
all-plain [] are = All-nil Plain
all-plain (e ∷ es) are = All-cons Plain (row_of_texts Sheet.Lei e.1) (rows_listed Sheet.Lei es) are.0 (all-plain es are.1)

pub rows-plain : (limits : Limits) (history : History) (rules : ℕ) → Legal (office_of limits history) → last_rules (last_entry history) ≤ rules
    → are_wide_rules rules ≡ false → All Plain (published_rows (after limits history) Sheet.Lei)
rows-plain limits history rules legal rising narrow =
    let held = sheet_rows (after limits history) Sheet.Lei in
    let plain = legal-plain limits history legal (narrow-rules (last_rules (last_entry history)) rules rising narrow) in
    all-plain (entries held) (each-found (λ k row. Plain (row_of_texts Sheet.Lei row)) (entries held) (entries_sorted held)
    (λ k row found. row-plain limits history k row plain (get-entries held k ∙ found)))

-- ---- and its changes

told-plain : (limits : Limits) (history : History) (t : Touched) → EachRecord NoEvent (after limits history)
    → IsToldBy Sheet.Lei (published_rows (after limits history) Sheet.Lei) t → is_key_of Sheet.Lei t.key ≡ true → IfSome (row_published t.item) Plain
told-plain limits history t plain told own =
    subst (λ row. IfSome row Plain) (sym (told own ∙ rows-found (after limits history) Sheet.Lei (key_texts t.key) (after-fit limits history).sound))
    (by (get (sheet_rows (after limits history) Sheet.Lei) (key_texts t.key)) refl)
  where
    by : (found : Option Row) → get (sheet_rows (after limits history) Sheet.Lei) (key_texts t.key) ≡ found → IfSome (published_row Sheet.Lei found) Plain
    by None is = tt
    by (Some row) is = row-plain limits history (key_texts t.key) row plain is

each-plain : (limits : Limits) (history : History) (told : List Touched) → EachRecord NoEvent (after limits history)
    → AllByRecursion (IsToldBy Sheet.Lei (published_rows (after limits history) Sheet.Lei)) told → ArePlain (map row_change_of told)
each-plain limits history [] plain each = tt
each-plain limits history (t ∷ told) plain each = by (is_key_of Sheet.Lei t.key) refl (each-plain limits history told plain each.1)
  where
    rest : KeyChanges
    rest = in_sheet Sheet.Lei (map row_change_of told)

    by : (b : Bool) → is_key_of Sheet.Lei t.key ≡ b → ArePlain (map row_change_of told)
        → AllByRecursion (λ (c : RowKey × Option SheetRow). IfSome c.1 Plain) (cond b (row_change_of t ∷ rest) rest)
    by true own later = (told-plain limits history t plain each.0 own, later)
    by false other later = later

pub changes-plain : (limits : Limits) (history : History) (changes : KeyChanges) (rules : ℕ) → Legal (office_of limits history) → last_rules (last_entry history) ≤ rules
    → AreNextChanges limits history changes → are_wide_rules rules ≡ false → ArePlain changes
changes-plain limits history changes rules legal rising next narrow =
    let plain = legal-plain limits history legal (narrow-rules (last_rules (last_entry history)) rules rising narrow) in
    let found = told-found (last_published history) (length history) (held_after limits history) next.told next.touched in
    subst ArePlain (sym next.are) (each-plain limits history next.told plain (all-told limits history Sheet.Lei next.told next.own found))
