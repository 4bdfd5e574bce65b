-- Lines that are joined from rendered rows and changes.
use Rattle.std.proofs.Common.{◌≡◌, Bool, ℕ, List, [], ◌∷◌, ◌++◌, map, refl, sym, ap, ◌∙◌}
use Rattle.std.specs.Prelude.{flat_map, codes, Result, Ok, Err, IfOk}
use Rattle.std.specs.List.{All}
use Rattle.std.proofs.lemmas.List.Elements.{All-head, All-tail}
use Rattle.std.proofs.lemmas.List.Folds.{flat_map-map}
use Rattle.copy_csv.specs.declared.rows.Change.{Change}
use Rattle.copy_csv.specs.declared.rows.RowTexts.{RowTexts}
use Rattle.copy_csv.specs.declared.rows.TextChange.{TextChange}
use Rattle.register_words.specs.declared.sheets.Sheet.{Sheet}
use Rattle.copy_csv.specs.Csv.{change_line, csv_copy, csv_delta, csv_line, delta_names, joined_line, rendered_in, rendered_line, row_line, text_change_line}
use Rattle.copy_csv.specs.Rows.{IsChangeOf, IsRowOfSheet}
use Rattle.copy_csv.specs.Sheets.{SheetRow, names_shown, shown_texts}
use Rattle.copy_csv.specs.Taking.{drop_bytes, put_bytes}
use Rattle.copy_csv.proofs.FileLemmas.{copy-is, delta-is}
use Rattle.copy_csv.proofs.LineLemmas.{drop-line, put-line, row-joined}
use Rattle.copy_csv.proofs.WidthLemmas.{shown_texts-some}
use Rattle.copy_forms.specs.Files.{rendered_change, row_renderings}

rows-joined : (sheet : Sheet) (wide : Bool) (rows : List SheetRow) → All (IsRowOfSheet sheet) rows
    → flat_map (joined_line wide) (map row_renderings rows) ≡ flat_map (row_line wide) rows
rows-joined sheet wide [] all = refl
rows-joined sheet wide (row ∷ rows) all = λ i. row-joined wide row (All-head (IsRowOfSheet sheet) row rows all).0 i
    ++ rows-joined sheet wide rows (All-tail (IsRowOfSheet sheet) row rows all) i

pub copy-joined : (sheet : Sheet) (wide : Bool) (bytes : List ℕ) (texts : List RowTexts)
    → bytes ≡ csv_line (names_shown wide sheet) ++ flat_map (joined_line wide) texts
    → (rows : List SheetRow) → texts ≡ map row_renderings rows → All (IsRowOfSheet sheet) rows → bytes ≡ csv_copy sheet wide rows
copy-joined sheet wide bytes texts is rows e all =
    is ∙ ap (λ l. csv_line (names_shown wide sheet) ++ flat_map (joined_line wide) l) e
    ∙ ap (λ l. csv_line (names_shown wide sheet) ++ l) (rows-joined sheet wide rows all) ∙ sym (copy-is sheet wide rows)

put_front : codes "\"PUT\"," ≡ put_bytes
put_front = refl

drop_front : codes "\"DROP\"," ≡ drop_bytes
drop_front = refl

one-joined : (sheet : Sheet) (wide : Bool) (change : Change) → IsChangeOf sheet change
    → rendered_line wide (rendered_change change) ≡ change_line wide change
one-joined sheet wide (Change.Put row) is = (λ i. put_front i ++ row-joined wide row is.0.0 i)
    ∙ sym (put-line (shown_texts wide row) (shown_texts-some sheet wide row is.0))
one-joined sheet wide (Change.Drop row) is = ap (λ l. l ++ row_line wide row) drop_front
    ∙ sym (drop-line (shown_texts wide row) (shown_texts-some sheet wide row is.0))

lines-joined : (sheet : Sheet) (wide : Bool) (changes : List Change) → All (IsChangeOf sheet) changes
    → flat_map (rendered_line wide) (map rendered_change changes) ≡ flat_map (change_line wide) changes
lines-joined sheet wide [] all = refl
lines-joined sheet wide (change ∷ changes) all = λ i. one-joined sheet wide change (All-head (IsChangeOf sheet) change changes all) i
    ++ lines-joined sheet wide changes (All-tail (IsChangeOf sheet) change changes all) i

pub delta-joined : (sheet : Sheet) (wide : Bool) (bytes : List ℕ) (texts : List TextChange)
    → bytes ≡ csv_line (delta_names wide sheet) ++ flat_map (text_change_line wide) texts
    → (changes : List Change) → map rendered_in texts ≡ map rendered_change changes → All (IsChangeOf sheet) changes
    → bytes ≡ csv_delta sheet wide changes
delta-joined sheet wide bytes texts is changes e all =
    is ∙ ap (λ l. csv_line (delta_names wide sheet) ++ l) (sym (flat_map-map (rendered_line wide) rendered_in texts))
    ∙ ap (λ l. csv_line (delta_names wide sheet) ++ flat_map (rendered_line wide) l) e
    ∙ ap (λ l. csv_line (delta_names wide sheet) ++ l) (lines-joined sheet wide changes all) ∙ sym (delta-is sheet wide changes)

pub copy-joined-ok : {E : Type 0} (sheet : Sheet) (wide : Bool) (texts : List RowTexts) (r : Result (List ℕ) E)
    → IfOk r (λ bytes. bytes ≡ csv_line (names_shown wide sheet) ++ flat_map (joined_line wide) texts)
    → IfOk r (λ bytes. (rows : List SheetRow) → texts ≡ map row_renderings rows → All (IsRowOfSheet sheet) rows → bytes ≡ csv_copy sheet wide rows)
copy-joined-ok sheet wide texts (Ok bytes) is = copy-joined sheet wide bytes texts is
copy-joined-ok sheet wide texts (Err e) is = tt

pub delta-joined-ok : {E : Type 0} (sheet : Sheet) (wide : Bool) (texts : List TextChange) (r : Result (List ℕ) E)
    → IfOk r (λ bytes. bytes ≡ csv_line (delta_names wide sheet) ++ flat_map (text_change_line wide) texts)
    → IfOk r (λ bytes. (changes : List Change) → map rendered_in texts ≡ map rendered_change changes → All (IsChangeOf sheet) changes
    → bytes ≡ csv_delta sheet wide changes)
delta-joined-ok sheet wide texts (Ok bytes) is = delta-joined sheet wide bytes texts is
delta-joined-ok sheet wide texts (Err e) is = tt
