-- The changes of the next publication are its own: keys of their sheets, each with a row under it or none.
use Rattle.std.proofs.Common.{◌≡◌, ℕ, List, [], ◌∷◌, map, Bool, true, false, cond, Option, Some, None, refl, sym, ap, subst, ◌∙◌, length}
use Rattle.std.specs.Prelude.{IfSome}
use Rattle.std.specs.FinMap.Entries.{find}
use Rattle.std.specs.List.{All, AllByRecursion}
use Rattle.std.specs.Ordering.{eq_by_cmp}
use Rattle.std.proofs.lemmas.List.Elements.{All-head, All-tail}
use Rattle.lei_records.specs.Tables.{KeyTexts, key_cmp}
use Rattle.lei_records.specs.declared.view.RowKey.{RowKey}
use Rattle.register_words.specs.declared.sheets.Sheet.{Sheet}
use Rattle.copy_csv.specs.Rows.{AreRows, IsRowOfSheet}
use Rattle.copy_csv.specs.Sheets.{SheetRow, key}
use Rattle.copy_forms.specs.Trails.{IsKeyOf, row_under}
use Rattle.golden_shelf.specs.Changes.{AreOwnChanges, IsOwnChange, IsRowUnder, KeyChanges}
use Rattle.golden_shelf.specs.Keys.{key_texts, sheet_of_key}
use Rattle.golden_shelf.proofs.Keeping.{under_keys}
use Rattle.register_table.specs.declared.touched.Touched.{Touched}
use Rattle.register_table.specs.Cells.{AreOwnItems}
use Rattle.register_table.specs.Held.{Held, cell_key}
use Rattle.register_table.specs.Touched.{cell_under_key}
use Rattle.upload_ledger.specs.History.{History}
use Rattle.register_words.specs.declared.limits.Limits.{Limits}
use Rattle.register_history.specs.Legal.{Legal}
use Rattle.register_history.specs.Standing.{AreRowCells}
use Rattle.register_history.specs.Publications.{last_published, published_rows}
use Rattle.register_history.specs.Publishing.{AreNextChanges, row_change_of, row_published}
use Rattle.register_history.specs.Register.{after, held_after}
use Rattle.register_history.specs.State.{office_of}
use Rattle.register_history.proofs.Stored.{held-stands}
use Rattle.register_history.proofs.NextIssue.{IsFoundIn, found-key, rising, same-sheet, told-found, told-row, under}
use Rattle.register_history.proofs.SoundTrail.{key-is, rows-are}

-- ---- keys

-- the texts after the kind
behind : KeyTexts → KeyTexts
behind [] = []
behind (kind ∷ texts) = texts

behind-is : (k : RowKey) → behind (cell_key k) ≡ key_texts k
unfolding behind
behind-is (RowKey.Rec lei) = refl
behind-is (RowKey.Rel start kind end) = refl
behind-is (RowKey.Exc lei category) = refl

same-key : (a b : RowKey) → cell_key a ≡ cell_key b → IsKeyOf (sheet_of_key b) (key_texts b) → IsKeyOf (sheet_of_key a) (key_texts a)
same-key a b same is =
    subst (λ s. IsKeyOf s (key_texts a)) (sym (same-sheet a b same))
    (subst (IsKeyOf (sheet_of_key b)) (sym (sym (behind-is a) ∙ (ap behind same ∙ behind-is b))) is)

held-key : (number : ℕ) (held : Held) (t : Touched) → AreRowCells number held → IsFoundIn held (cell_under_key t) → IsKeyOf (sheet_of_key t.key) (key_texts t.key)
held-key number held t all found =
    let stands = all (cell_key t.key) (cell_under_key t).1 found in
    same-key t.key stands.row_key stands.under (key-is stands.row_key stands.is_key)

-- ---- rows

found-good : (P : SheetRow → Type 0) (rows : List SheetRow) (k : KeyTexts) (row : SheetRow) → All P rows → find key_cmp k (under_keys rows) ≡ Some row → P row
found-good P [] k row all is = cc
found-good P (x ∷ rows) k row all is = by (eq_by_cmp key_cmp k (key x)) is (found-good P rows k row (All-tail P x rows all))
  where
    by : (b : Bool) → cond b (Some x) (find key_cmp k (under_keys rows)) ≡ Some row → (find key_cmp k (under_keys rows) ≡ Some row → P row) → P row
    by true is later = (let same : x ≡ row = cc in subst P same (All-head P x rows all))
    by false is later = later is

row-under : (sheet : Sheet) (rows : List SheetRow) (k : KeyTexts) (told : Option SheetRow) → AreRows sheet rows → told ≡ row_under rows k
    → IfSome told (IsRowUnder sheet k)
row-under sheet rows k None are is = tt
row-under sheet rows k (Some row) are is =
    let found : find key_cmp k (under_keys rows) ≡ Some row = sym (under rows k) ∙ sym is in
    record { row_is = found-good (IsRowOfSheet sheet) rows k row are.each found; key_is = found-key rows k row found }

-- ---- changes

each-own : (limits : Limits) (history : History) (told : List Touched) → Legal (office_of limits history) → AreOwnItems told
    → AllByRecursion (λ t. IsFoundIn (held_after limits history) (cell_under_key t)) told → AllByRecursion IsOwnChange (map row_change_of told)
each-own limits history [] legal own found = tt
each-own limits history (t ∷ told) legal own found =
    let sheet = sheet_of_key t.key in (
      record {
        key_is = held-key (length history) (held_after limits history) t (held-stands limits history legal) found.0;
        row_is = row-under sheet (published_rows (after limits history) sheet) (key_texts t.key) (row_published t.item) (rows-are limits history sheet)
            (told-row limits history t own.0 found.0);
      },
      each-own limits history told legal own.1 found.1,
    )

pub own_changes : (limits : Limits) (history : History) (changes : KeyChanges) → Legal (office_of limits history) → AreNextChanges limits history changes
    → AreOwnChanges changes
own_changes limits history changes legal next = record {
  each = subst (AllByRecursion IsOwnChange) (sym next.are) (each-own limits history next.told legal next.own
      (told-found (last_published history) (length history) (held_after limits history) next.told next.touched));
  rising = rising limits history changes next;
}
