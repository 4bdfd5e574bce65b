-- What is read from a copy or a delta.
use Rattle.std.proofs.Common.{◌≡◌, ℕ, ◌<◌, ◌^◌, Bool, true, false, ◌&&◌, List, map, length, refl, sym, subst, ◌∙◌}
use Rattle.std.specs.Prelude.{[], ◌∷◌, ◌++◌, None, Result, Ok, Err, IfOk, ⊤}
use Rattle.std.specs.List.{All}
use Rattle.std.proofs.lemmas.Bool.{false≢true}
use Rattle.std.proofs.lemmas.List.Elements.{All-cons, All-nil}
use Rattle.copy_csv.specs.declared.heads.Head.{Head}
use Rattle.copy_csv.specs.declared.rows.Change.{Change}
use Rattle.register_words.specs.declared.sheets.Form.{Form}
use Rattle.register_words.specs.declared.sheets.Sheet.{Sheet}
use Rattle.copy_csv.specs.declared.rows.RowTexts.{RowTexts}
use Rattle.copy_csv.specs.declared.rows.TextChange.{TextChange}
use Rattle.copy_csv.specs.declared.heads.CopyRead.{CopyRead}
use Rattle.copy_csv.specs.declared.heads.DeltaRead.{DeltaRead}
use Rattle.copy_csv.specs.Csv.{IsCsvCopy, IsCsvDelta, rendered_in}
use Rattle.copy_forms.specs.Files.{IsCopy, IsCopyRead, IsDelta, IsDeltaRead, copy, delta, may_be_wide, rendered_change, row_renderings}
use Rattle.copy_forms.specs.Json.{json_copy, json_delta}
use Rattle.copy_forms.specs.JsonTexts.{before_copy, before_delta, records_text, text_change_record}
use Rattle.copy_forms.specs.JsonReading.{IsJsonCopy, IsJsonDelta}
use Rattle.copy_csv.specs.Rows.{IsChangeOf, IsCopyHead, IsDeltaHead, IsRowOfSheet, KeysRise, changed_key}
use Rattle.copy_csv.specs.Sheets.{SheetRow, key}
use Rattle.copy_csv.proofs.FileLemmas.{copy-one_width, delta-one_width}
use Rattle.copy_forms.proofs.JsonCopies.{copies-differ}
use Rattle.copy_forms.proofs.JsonDeltas.{deltas-differ}
use Rattle.copy_forms.proofs.JsonJoined.{copy-joined, delta-joined}

-- if a file loses nothing of any row, the condition on the rows always holds
pub always : {X : Type 0} (xs : List X) → All (λ x. ⊤) xs
always [] = All-nil (λ x. ⊤)
always (x ∷ xs) = All-cons (λ x. ⊤) x xs tt (always xs)

-- ---- in JSON

pub copy-to : (sheet : Sheet) (bytes : List ℕ) (head : Head) (wide : Bool) (rows : List SheetRow)
    → IsCopy bytes sheet Form.Json head wide rows → IsJsonCopy sheet bytes head rows
copy-to sheet bytes head wide rows is = record {
  text = is.text;
  begins = is.head_is;
  each = is.rows_are.each;
}

pub copy-with : (sheet : Sheet) (bytes : List ℕ) (head : Head) (rows : List SheetRow) → IsJsonCopy sheet bytes head rows
    → KeysRise (map key rows) → IsCopy bytes sheet Form.Json head false rows
copy-with sheet bytes head rows is rising = record {
  text = is.text;
  head_is = is.begins;
  wide_is = λ wide. absurd (false≢true wide);
  rows_are = record { each = is.each; rising = rising };
  fit = always rows;
}

-- if the keys of the rows don't rise, the bytes aren't a copy
pub copy-falls : (sheet : Sheet) (bytes : List ℕ) (head : Head) (rows : List SheetRow) → length bytes < 2 ^ 64
    → IsJsonCopy sheet bytes head rows → (KeysRise (map key rows) → ⊥) → (other : Head) (wide : Bool)
    (others : List SheetRow) → IsCopy bytes sheet Form.Json other wide others → ⊥
copy-falls sheet bytes head rows short read falls other wide others is =
    let same = copies-differ sheet bytes head other rows others short read (copy-to sheet bytes other wide others is) in
    falls (subst (λ (l : List SheetRow). KeysRise (map key l)) (sym same.1) is.rows_are.rising)

pub delta-to : (sheet : Sheet) (bytes : List ℕ) (head : Head) (wide : Bool) (changes : List Change)
    → IsDelta bytes sheet Form.Json head wide changes → IsJsonDelta sheet bytes head changes
delta-to sheet bytes head wide changes is = record {
  text = is.text;
  begins = is.head_is;
  each = is.changes_are.each;
}

pub delta-with : (sheet : Sheet) (bytes : List ℕ) (head : Head) (changes : List Change) → IsJsonDelta sheet bytes head changes
    → KeysRise (map changed_key changes) → IsDelta bytes sheet Form.Json head false changes
delta-with sheet bytes head changes is rising = record {
  text = is.text;
  head_is = is.begins;
  wide_is = λ wide. absurd (false≢true wide);
  changes_are = record { each = is.each; rising = rising };
  fit = always changes;
}

-- if the keys of the changes don't rise, the bytes aren't a delta
pub delta-falls : (sheet : Sheet) (bytes : List ℕ) (head : Head) (changes : List Change) → length bytes < 2 ^ 64
    → IsJsonDelta sheet bytes head changes → (KeysRise (map changed_key changes) → ⊥) → (other : Head) (wide : Bool)
    (others : List Change) → IsDelta bytes sheet Form.Json other wide others → ⊥
delta-falls sheet bytes head changes short read falls other wide others is =
    let same = deltas-differ sheet bytes head other changes others short read (delta-to sheet bytes other wide others is) in
    falls (subst (λ (l : List Change). KeysRise (map changed_key l)) (sym same.1) is.changes_are.rising)

-- two copies with different heads or rows have different texts
pub copy-same : (sheet : Sheet) (bytes : List ℕ) (head other : Head) (wide wider : Bool) (rows others : List SheetRow) → length bytes < 2 ^ 64
    → IsCopy bytes sheet Form.Json head wide rows → IsCopy bytes sheet Form.Json other wider others → (head ≡ other) × (rows ≡ others)
copy-same sheet bytes head other wide wider rows others short is also =
    copies-differ sheet bytes head other rows others short (copy-to sheet bytes head wide rows is) (copy-to sheet bytes other wider others also)

-- two deltas with different heads or changes have different texts
pub delta-same : (sheet : Sheet) (bytes : List ℕ) (head other : Head) (wide wider : Bool) (changes others : List Change) → length bytes < 2 ^ 64
    → IsDelta bytes sheet Form.Json head wide changes → IsDelta bytes sheet Form.Json other wider others → (head ≡ other) × (changes ≡ others)
delta-same sheet bytes head other wide wider changes others short is also =
    deltas-differ sheet bytes head other changes others short (delta-to sheet bytes head wide changes is) (delta-to sheet bytes other wider others also)

-- ---- in CSV

pub csv-copy : (sheet : Sheet) (bytes : List ℕ) (head : Head) (wide : Bool) (rows : List SheetRow) → IsCopy bytes sheet Form.Csv head wide rows
    → IsCsvCopy sheet bytes wide rows
csv-copy sheet bytes head wide rows is = record { text = is.text; wide_is = is.wide_is; rows_are = is.rows_are; fit = is.fit }

pub csv-copy-with : (sheet : Sheet) (bytes : List ℕ) (wide : Bool) (rows : List SheetRow) → IsCsvCopy sheet bytes wide rows
    → (head : Head) → IsCopyHead head → IsCopy bytes sheet Form.Csv head wide rows
csv-copy-with sheet bytes wide rows is head head_is =
    record { text = is.text; head_is = head_is; wide_is = is.wide_is; rows_are = is.rows_are; fit = is.fit }

pub csv-delta : (sheet : Sheet) (bytes : List ℕ) (head : Head) (wide : Bool) (changes : List Change) → IsDelta bytes sheet Form.Csv head wide changes
    → IsCsvDelta sheet bytes wide changes
csv-delta sheet bytes head wide changes is = record { text = is.text; wide_is = is.wide_is; changes_are = is.changes_are; fit = is.fit }

pub csv-delta-with : (sheet : Sheet) (bytes : List ℕ) (wide : Bool) (changes : List Change) → IsCsvDelta sheet bytes wide changes
    → (head : Head) → IsDeltaHead head → IsDelta bytes sheet Form.Csv head wide changes
csv-delta-with sheet bytes wide changes is head head_is =
    record { text = is.text; head_is = head_is; wide_is = is.wide_is; changes_are = is.changes_are; fit = is.fit }

-- what is read from CSV
pub copy-read : {E : Type 0} (sheet : Sheet) (bytes : List ℕ) (r : Result CopyRead E) → IfOk r (λ read. read.head ≡ None)
    → IfOk r (λ read. IsCsvCopy sheet bytes read.wide read.rows) → IfOk r (λ read. IsCopyRead bytes sheet Form.Csv read)
copy-read sheet bytes (Ok read) none is = (none, csv-copy-with sheet bytes read.wide read.rows is)
copy-read sheet bytes (Err e) none is = tt

pub delta-read : {E : Type 0} (sheet : Sheet) (bytes : List ℕ) (r : Result DeltaRead E) → IfOk r (λ read. read.head ≡ None)
    → IfOk r (λ read. IsCsvDelta sheet bytes read.wide read.changes) → IfOk r (λ read. IsDeltaRead bytes sheet Form.Csv read)
delta-read sheet bytes (Ok read) none is = (none, csv-delta-with sheet bytes read.wide read.changes is)
delta-read sheet bytes (Err e) none is = tt

-- ---- widths

-- if a sheet has only one width in a form, each text has that width
pub copy-width : (sheet : Sheet) (form : Form) (wide : Bool) (head : Head) (rows : List SheetRow) → All (IsRowOfSheet sheet) rows
    → copy sheet form wide head rows ≡ copy sheet form (wide && may_be_wide sheet form) head rows
copy-width sheet Form.Json wide head rows all = refl
copy-width Sheet.Lei Form.Csv true head rows all = refl
copy-width Sheet.Lei Form.Csv false head rows all = refl
copy-width Sheet.Rr Form.Csv wide head rows all = copy-one_width Sheet.Rr wide (wide && false) refl rows all
copy-width Sheet.Repex Form.Csv wide head rows all = copy-one_width Sheet.Repex wide (wide && false) refl rows all

pub delta-width : (sheet : Sheet) (form : Form) (wide : Bool) (head : Head) (changes : List Change) → All (IsChangeOf sheet) changes
    → delta sheet form wide head changes ≡ delta sheet form (wide && may_be_wide sheet form) head changes
delta-width sheet Form.Json wide head changes all = refl
delta-width Sheet.Lei Form.Csv true head changes all = refl
delta-width Sheet.Lei Form.Csv false head changes all = refl
delta-width Sheet.Rr Form.Csv wide head changes all = delta-one_width Sheet.Rr wide (wide && false) refl changes all
delta-width Sheet.Repex Form.Csv wide head changes all = delta-one_width Sheet.Repex wide (wide && false) refl changes all

-- ---- files that are joined from rendered rows and changes

pub json-copy-ok : {E : Type 0} (head : Head) (texts : List RowTexts) (r : Result (List ℕ) E)
    → IfOk r (λ bytes. bytes ≡ before_copy head (length texts) (records_text false (map (λ (t : RowTexts). t.json) texts) ++ 125 ∷ []))
    → IfOk r (λ bytes. (rows : List SheetRow) → texts ≡ map row_renderings rows → bytes ≡ json_copy head rows)
json-copy-ok head texts (Ok bytes) is = λ rows e. is ∙ copy-joined head texts rows e
json-copy-ok head texts (Err e) is = tt

pub json-delta-ok : {E : Type 0} (head : Head) (texts : List TextChange) (r : Result (List ℕ) E)
    → IfOk r (λ bytes. bytes ≡ before_delta head (length texts) (records_text false (map text_change_record texts) ++ 125 ∷ []))
    → IfOk r (λ bytes. (changes : List Change) → map rendered_in texts ≡ map rendered_change changes → bytes ≡ json_delta head changes)
json-delta-ok head texts (Ok bytes) is = λ changes e. is ∙ delta-joined head texts changes e
json-delta-ok head texts (Err e) is = tt
