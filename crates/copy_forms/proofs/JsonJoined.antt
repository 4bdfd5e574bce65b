-- What is joined from rendered rows and changes is the text of their file.
use Rattle.std.proofs.Common.{◌≡◌, List, [], ◌∷◌, ◌++◌, false, refl, sym, ap, ◌∙◌, length, map}
use Rattle.std.specs.Borrow.{Bor}
use Rattle.std.proofs.lemmas.List.{length-map}
use Rattle.copy_csv.specs.declared.heads.Head.{Head}
use Rattle.copy_csv.specs.declared.rows.Change.{Change}
use Rattle.copy_csv.specs.declared.rows.RowTexts.{RowTexts}
use Rattle.copy_csv.specs.declared.rows.TextChange.{TextChange}
use Rattle.copy_forms.specs.Files.{rendered_change, row_renderings}
use Rattle.copy_forms.specs.Json.{json_copy, json_delta, json_record}
use Rattle.copy_csv.specs.Csv.{rendered_in}
use Rattle.copy_forms.specs.JsonTexts.{before_copy, before_delta, records_text, rendered_record, text_change_record}
use Rattle.copy_csv.specs.Sheets.{SheetRow}
use Rattle.copy_forms.proofs.JsonCopies.{copy-text}
use Rattle.copy_forms.proofs.JsonDeltas.{delta-text, json_change}
use Rattle.copy_forms.proofs.JsonItems.{end-is}

records-of : (rows : List SheetRow) → map (λ (texts : RowTexts). texts.json) (map row_renderings rows) ≡ map json_record rows
records-of [] = refl
records-of (row ∷ rows) = ap (λ l. json_record row ∷ l) (records-of rows)

pub copy-joined : (head : Head) (texts : List RowTexts) (rows : List SheetRow) → texts ≡ map row_renderings rows
    → before_copy head (length texts) (records_text false (map (λ (t : RowTexts). t.json) texts) ++ 125 ∷ []) ≡ json_copy head rows
copy-joined head texts rows is =
    ap (λ l. before_copy head (length l) (records_text false (map (λ (t : RowTexts). t.json) l) ++ 125 ∷ [])) is
    ∙ ap (λ n. before_copy head n (records_text false (map (λ (t : RowTexts). t.json) (map row_renderings rows)) ++ 125 ∷ [])) (length-map rows row_renderings)
    ∙ ap (λ l. before_copy head (length rows) (records_text false l ++ 125 ∷ [])) (records-of rows)
    ∙ ap (before_copy head (length rows)) (sym (end-is false (map json_record rows))) ∙ sym (copy-text head rows)

change-of : (change : Change) → rendered_record (rendered_change change) ≡ json_change change
unfolding json_change
change-of (Change.Put row) = refl
change-of (Change.Drop row) = refl

changes-of : (changes : List Change) → map rendered_record (map rendered_change changes) ≡ map json_change changes
changes-of [] = refl
changes-of (change ∷ changes) = ap (λ l. rendered_record (rendered_change change) ∷ l) (changes-of changes) ∙ ap (λ t. t ∷ map json_change changes) (change-of change)

records-in : (texts : List TextChange) → map text_change_record texts ≡ map rendered_record (map rendered_in texts)
records-in [] = refl
records-in (change ∷ texts) = ap (λ l. text_change_record change ∷ l) (records-in texts)

pub delta-joined : (head : Head) (texts : List TextChange) (changes : List Change) → map rendered_in texts ≡ map rendered_change changes
    → before_delta head (length texts) (records_text false (map text_change_record texts) ++ 125 ∷ []) ≡ json_delta head changes
delta-joined head texts changes is =
    ap (λ n. before_delta head n (records_text false (map text_change_record texts) ++ 125 ∷ [])) (sym (length-map texts rendered_in))
    ∙ ap (λ l. before_delta head (length (map rendered_in texts)) (records_text false l ++ 125 ∷ [])) (records-in texts)
    ∙ ap (λ l. before_delta head (length l) (records_text false (map rendered_record l) ++ 125 ∷ [])) is
    ∙ ap (λ n. before_delta head n (records_text false (map rendered_record (map rendered_change changes)) ++ 125 ∷ [])) (length-map changes rendered_change)
    ∙ ap (λ l. before_delta head (length changes) (records_text false l ++ 125 ∷ [])) (changes-of changes)
    ∙ ap (before_delta head (length changes)) (sym (end-is false (map json_change changes))) ∙ sym (delta-text head changes)

-- records that are printed one by one, joined to a copy
pub rows-joined : (head : Head) (rows : List (Bor SheetRow))
    → before_copy head (length rows) (records_text false (map (λ row. json_record row.now) rows) ++ 125 ∷ []) ≡ json_copy head (map (λ row. row.now) rows)
rows-joined head rows =
    let held : List SheetRow = map (λ row. row.now) rows in
    ap (λ n. before_copy head n (records_text false (map (λ row. json_record row.now) rows) ++ 125 ∷ [])) (sym (length-map rows (λ row. row.now)))
    ∙ ap (λ l. before_copy head (length held) (records_text false l ++ 125 ∷ [])) (records rows)
    ∙ ap (before_copy head (length held)) (sym (end-is false (map json_record held))) ∙ sym (copy-text head held)
  where
    records : (rows : List (Bor SheetRow)) → map (λ row. json_record row.now) rows ≡ map json_record (map (λ row. row.now) rows)
    records [] = refl
    records (row ∷ rows) = ap (λ l. json_record row.now ∷ l) (records rows)
