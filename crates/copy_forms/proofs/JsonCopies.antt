-- A copy in JSON is read back from its text, and only from this.
use Rattle.std.proofs.Common.{◌≡◌, ℕ, suc, ◌+◌, ◌<◌, ◌≤◌, ◌^◌, Bool, true, false, List, [], ◌∷◌, ◌++◌, Option, Some, None, option_map, option_and_then, unwrap_or, refl, sym, ap, ◌∙◌, subst, arith, length, map, codes}
use Rattle.std.specs.Prelude.{decimal}
use Rattle.std.specs.List.{All, zip}
use Rattle.std.proofs.lemmas.List.{length-append, length-map}
use Rattle.std.proofs.lemmas.Option.{none-some}
use Rattle.json.specs.Print.{quoted}
use Rattle.serde_json.specs.Written.{comma_if, compact_text, items_text}
use Rattle.lei_shapes.specs.Clock.{moment_text}
use Rattle.register_words.specs.declared.sheets.Sheet.{Sheet}
use Rattle.copy_csv.specs.declared.heads.Head.{Head}
use Rattle.copy_csv.specs.Rows.{IsCopyHead, IsRowOfSheet}
use Rattle.copy_csv.specs.Sheets.{SheetRow}
use Rattle.copy_forms.specs.Json.{array_items, json_copy, json_names, json_record, record_value}
use Rattle.copy_forms.specs.JsonTexts.{before_copy, before_records, json_fields_text, records_text}
use Rattle.copy_forms.specs.JsonReading.{IsJsonCopy, copy_from, count_from, date_from, items_from, publication_from, record_from}
use Rattle.copy_forms.proofs.JsonRecords.{in_json_order, record-again, record-taken, record-text}
use Rattle.copy_forms.proofs.JsonItems.{IsReader, end-is, items-again, items-taken, items_and_end, records-text}
use Rattle.copy_forms.proofs.JsonFiles.{count-again, count-taken, date-again, date-taken, publication-again, publication-taken}

-- ---- the text

texts-of : (rows : List SheetRow) → map compact_text (map record_value rows) ≡ map json_record rows
unfolding json_record
texts-of [] = refl
texts-of (row ∷ rows) = ap (λ l. json_record row ∷ l) (texts-of rows)

pub copy-text : (head : Head) (rows : List SheetRow) → json_copy head rows ≡ before_copy head (length rows) (items_and_end false (map json_record rows))
unfolding json_copy
copy-text head rows =
    let values = map record_value rows in
    ap (λ n. before_copy head n (items_text false (array_items values) ++ 125 ∷ [])) (length-map rows record_value)
    ∙ ap (λ l. before_copy head (length rows) (l ++ 125 ∷ [])) (records-text false values ∙ ap (records_text false) (texts-of rows))
    ∙ ap (before_copy head (length rows)) (sym (end-is false (map json_record rows)))

-- ---- rows

pub row-reader : (sheet : Sheet) → IsReader (record_from sheet) json_record (IsRowOfSheet sheet)
row-reader sheet = record {
  again = λ row rest sound. ap (λ s. record_from s (json_record row ++ rest)) (sym sound.1) ∙ record-again row rest sound.0;
  is = λ bytes row rest read. (record-taken sheet bytes row rest read).is;
  sound = λ bytes row rest read. let taken = record-taken sheet bytes row rest read in (taken.holds, taken.belongs);
}

-- ---- copies

-- the value between two steps of a chain of readings
pub record Through {X Y : Type 0} (step : X → Option Y) (found : Option X) (y : Y) : Type 0 where
  pub at : X
  pub is : found ≡ Some at
  pub behind : step at ≡ Some y

pub through : {X Y : Type 0} (step : X → Option Y) (found : Option X) (y : Y) → option_and_then step found ≡ Some y → Through step found y
through step None y is = absurd (none-some y is)
through step (Some x) y is = record { at = x; is = refl; behind = is }

pub record Mapped {X Y : Type 0} (step : X → Y) (found : Option X) (y : Y) : Type 0 where
  pub at : X
  pub is : found ≡ Some at
  pub same : step at ≡ y

pub mapped : {X Y : Type 0} (step : X → Y) (found : Option X) (y : Y) → option_map step found ≡ Some y → Mapped step found y
mapped step None y is = absurd (none-some y is)
mapped step (Some x) y is = record { at = x; is = refl; same = ap (λ o. unwrap_or o y) is }

pub copy-again : (sheet : Sheet) (head : Head) (rows : List SheetRow) → IsCopyHead head → All (IsRowOfSheet sheet) rows → length rows < 2 ^ 64
    → copy_from sheet (json_copy head rows) ≡ Some (head, rows)
unfolding copy_from
copy-again sheet head rows is sound fits =
    let items = items_and_end false (map json_record rows) in
    let counted = before_records (length rows) items in
    let numbered = 44 ∷ (quoted (codes "publication") ++ 58 ∷ (decimal head.publication ++ counted)) in
    let reads = items-again (record_from sheet) json_record (IsRowOfSheet sheet) (row-reader sheet) rows false sound in
    let made : Some (record { moment = head.moment; publication = head.publication; from = 0 }, rows) ≡ Some (head, rows) =
    ap (λ from. Some (record { moment = head.moment; publication = head.publication; from = from }, rows)) (sym is.from) in
    rw (
      copy-text head rows,
      date-again head.moment numbered is.moment,
      publication-again (codes "publication") head.publication _ is.publication,
      count-again (length rows) items fits,
      reads,
    ) made

pub copy-taken : (sheet : Sheet) (bytes : List ℕ) (head : Head) (rows : List SheetRow) → copy_from sheet bytes ≡ Some (head, rows) → IsJsonCopy sheet bytes head rows
unfolding copy_from
copy-taken sheet bytes head rows is =
    let first = through _ (date_from bytes) (head, rows) is in
    let second = through _ (publication_from (codes "publication") first.at.1) (head, rows) first.behind in
    let third = through _ (count_from second.at.1) (head, rows) second.behind in
    let fourth = mapped _ (items_from (record_from sheet) third.at.0 false third.at.1) (head, rows) third.behind in
    let date = date-taken bytes first.at.0 first.at.1 first.is in
    let publication = publication-taken (codes "publication") first.at.1 second.at.0 second.at.1 second.is in
    let count = count-taken second.at.1 third.at.0 third.at.1 third.is in
    let items = items-taken (record_from sheet) json_record (IsRowOfSheet sheet) (row-reader sheet) third.at.0 false third.at.1 fourth.at fourth.is in
    let given : Head = record { moment = first.at.0; publication = second.at.0; from = 0 } in
    let P : Head × List SheetRow → Type 0 = λ p. IsJsonCopy sheet bytes p.0 p.1 in
    subst P fourth.same (record {
      text = date.is
          ∙ ap (λ l. 123 ∷ (quoted (codes "contentDate") ++ 58 ∷ (quoted (moment_text first.at.0) ++ l)))
          (publication.is ∙ ap (λ l. 44 ∷ (quoted (codes "publication") ++ 58 ∷ (decimal second.at.0 ++ l))) (count.is ∙ ap (before_records third.at.0) items.is))
          ∙ ap (λ n. before_copy given n (items_and_end false (map json_record fourth.at))) (sym items.count)
          ∙ sym (copy-text given fourth.at);
      begins = record { moment = date.moment; publication = publication.number; from = refl };
      each = items.sound;
    })

-- ---- a file has at least as many bytes as records

pub longer : (front rest : List ℕ) → length rest ≤ length (front ++ rest)
longer front rest = omega (arith, length-append front rest)

records-long : (later : Bool) (rows : List SheetRow) → length rows ≤ length (records_text later (map json_record rows))
records-long later [] = omega arith
records-long later (row ∷ rows) =
    let others = records_text true (map json_record rows) in
    let below = records-long true rows in
    let whole = longer (comma_if later) (json_record row ++ others) in
    let text : length (json_record row ++ others) ≡ length (json_record row) + length others = length-append (json_record row) others in
    let some : length (json_record row) ≡ suc (length (json_fields_text false (zip (json_names row.sheet) (in_json_order row)))) = ap length (record-text row) in
    omega arith

pub before_records-long : (n : ℕ) (rest : List ℕ) → length rest ≤ length (before_records n rest)
before_records-long n rest =
    let records = quoted (codes "records") ++ 58 ∷ 91 ∷ rest in
    let first = longer (quoted (codes "records")) (58 ∷ 91 ∷ rest) in
    let second = longer (decimal n) (44 ∷ records) in
    let third = longer (quoted (codes "recordCount")) (58 ∷ (decimal n ++ 44 ∷ records)) in
    omega arith

pub copy-long : (head : Head) (rows : List SheetRow) → length rows ≤ length (json_copy head rows)
copy-long head rows =
    let items = items_and_end false (map json_record rows) in
    let counted = before_records (length rows) items in
    let numbered = 44 ∷ (quoted (codes "publication") ++ 58 ∷ (decimal head.publication ++ counted)) in
    let texts = records-long false rows in
    let end : length items ≡ length (records_text false (map json_record rows)) + 1 =
    ap length (end-is false (map json_record rows)) ∙ length-append (records_text false (map json_record rows)) (125 ∷ []) in
    let records = before_records-long (length rows) items in
    let first = longer (decimal head.publication) counted in
    let second = longer (quoted (codes "publication")) (58 ∷ (decimal head.publication ++ counted)) in
    let third = longer (quoted (moment_text head.moment)) numbered in
    let fourth = longer (quoted (codes "contentDate")) (58 ∷ (quoted (moment_text head.moment) ++ numbered)) in
    let whole : length (json_copy head rows) ≡ length (before_copy head (length rows) items) = ap length (copy-text head rows) in
    omega arith

-- ---- what the reader's contract says

pub copy-unread : (sheet : Sheet) (bytes : List ℕ) (head : Head) (rows : List SheetRow) → length bytes < 2 ^ 64 → copy_from sheet bytes ≡ None → IsJsonCopy sheet bytes head rows → ⊥
copy-unread sheet bytes head rows short none is =
    let fits : length rows < 2 ^ 64 = omega (arith, copy-long head rows, ap length is.text) in
    none-some (head, rows) (sym none ∙ ap (copy_from sheet) is.text ∙ copy-again sheet head rows is.begins is.each fits)

-- two copies with different heads or rows have different texts
pub copies-differ : (sheet : Sheet) (bytes : List ℕ) (head other : Head) (rows others : List SheetRow) → length bytes < 2 ^ 64 → IsJsonCopy sheet bytes head rows
    → IsJsonCopy sheet bytes other others → (head ≡ other) × (rows ≡ others)
copies-differ sheet bytes head other rows others short is also =
    let fits : length rows < 2 ^ 64 = omega (arith, copy-long head rows, ap length is.text) in
    let other_fits : length others < 2 ^ 64 = omega (arith, copy-long other others, ap length also.text) in
    let reads : Some (head, rows) ≡ Some (other, others) =
    sym (copy-again sheet head rows is.begins is.each fits) ∙ ap (copy_from sheet) (sym is.text ∙ also.text) ∙ copy-again sheet other others also.begins also.each other_fits in
    (ap (λ o. unwrap_or (option_map (λ p. p.0) o) head) reads, ap (λ o. unwrap_or (option_map (λ p. p.1) o) rows) reads)
