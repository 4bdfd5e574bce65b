-- Lines of rows and of changes.
use Rattle.std.proofs.Common.{◌≡◌, ◌≢◌, ℕ, zero, suc, ◌+◌, ◌-◌, ◌<◌, ◌==◌, Bool, true, false, ◌&&◌, cond, inl, inr, get_or, Option, None, Some, List, [], ◌∷◌, ◌++◌, length, take, drop, refl, sym, ap, subst, ◌∙◌, arith, append_assoc}
use Rattle.std.specs.Prelude.{codes, flat_map, if◌then◌else◌, replicate, unwrap_or}
use Rattle.std.specs.List.{All, list_all}
use Rattle.std.specs.Str.{IsUtf8, is_utf8}
use Rattle.std.proofs.lemmas.Bool.Decides.{eqb_tells}
use Rattle.std.proofs.lemmas.Grind.{flat_map-append}
use Rattle.std.proofs.lemmas.List.{append-nil, get_or-take, length-take-le, take-append-drop, take_all}
use Rattle.std.proofs.lemmas.List.Elements.{All-head, All-tail}
use Rattle.std.proofs.lemmas.Str.{IsUtf8-append, IsUtf8-from_is_utf8, IsUtf8-nil}
use Rattle.item_fields.specs.Fields.{exception_fields, fields, relation_fields}
use Rattle.lei_records.specs.Rows.{text_at}
use Rattle.std.proofs.lemmas.Bool.{false≢true}
use Rattle.lei_code.specs.Texts.{Text}
use Rattle.copy_csv.specs.declared.rows.Change.{Change}
use Rattle.register_words.specs.declared.sheets.Sheet.{Sheet}
use Rattle.copy_csv.specs.Csv.{after_comma, change_line, csv_fields_text, csv_line, field_byte, in_quotes, row_line, row_start, row_tail, separator}
use Rattle.copy_csv.specs.CsvReading.{line_from}
use Rattle.copy_csv.specs.Rows.{IsChangeIn, IsChangeOf, IsRowIn, IsRowOfSheet}
use Rattle.copy_csv.specs.Sheets.{IsSheetRow, SheetRow, column_count, column_names, fits, is_key_alone, names_shown, row_of_texts, shown_texts, width}
use Rattle.copy_csv.specs.Taking.{ReadsNext, drop_bytes, put_bytes}
use Rattle.copy_csv.proofs.CsvLemmas.{LineTaken, line_again, line_taken}
use Rattle.copy_csv.proofs.Utf8Lemmas.{utf8_behind, utf8_doubled, utf8_joined}
use Rattle.copy_csv.proofs.WidthLemmas.{column_count-all, column_count-within, filled-fits, filled-shown, left_out-empty, length-shown, same_shown, shown_texts-some}

abbrev pub Read : Type 0
Read = List Text × List ℕ

same_read : (x y : Read) → Some x ≡ Some y → x ≡ y
same_read x y e = ap (λ r. unwrap_or r x) e

pub some≢none : (x : Read) → Some x ≢ None
some≢none x e = cc

-- what was read is a line
pub row-read : (count : ℕ) (texts : List Text) (old new : List ℕ) → Some (texts, new) ≡ line_from count old
    → (old ≡ csv_line texts ++ new) × (length texts ≡ count)
row-read count texts old new e =
    let F : Option Read → Type 0 = LineTaken count old in subst F (sym e) (line_taken count old)

-- if none was read, no line of this many fields comes next
csv_line-none : (count : ℕ) (old : List ℕ) → None ≡ line_from count old → (texts : List Text) (rest : List ℕ) → length texts ≡ count
    → old ≢ csv_line texts ++ rest
csv_line-none count old none texts rest long e =
    some≢none (texts, rest) (sym (line_again texts rest) ∙ ap (λ n. line_from n (csv_line texts ++ rest)) long
    ∙ ap (line_from count) (sym e) ∙ sym none)

-- a line is read in one way
csv_line-one_way : (count : ℕ) (xs ys : List Text) (a b : List ℕ) → length xs ≡ count → length ys ≡ count → csv_line xs ++ a ≡ csv_line ys ++ b
    → (xs ≡ ys) × (a ≡ b)
csv_line-one_way count xs ys a b long others e =
    let x : Read = (xs, a) in
    let y : Read = (ys, b) in
    let same : x ≡ y = same_read x y (sym (line_again xs a) ∙ ap (λ n. line_from n (csv_line xs ++ a)) (long ∙ sym others)
    ∙ ap (line_from (length ys)) e ∙ line_again ys b) in
    (ap (λ r. r.0) same, ap (λ r. r.1) same)

-- ---- rows

pub row-none : (sheet : Sheet) (wide : Bool) (old new : List ℕ) → None ≡ line_from (column_count wide sheet) old
    → ReadsNext (row_line wide) (IsRowIn sheet wide) old None new
row-none sheet wide old new none row rest is =
    csv_line-none (column_count wide sheet) old none (shown_texts wide row) rest (length-shown sheet wide row is.0)

-- a line that was read, filled up to a row
pub row-filled : (sheet : Sheet) (wide : Bool) (texts all : List Text) (count : ℕ) (row : SheetRow) (old new : List ℕ)
    → (old ≡ csv_line texts ++ new) × (length texts ≡ column_count wide sheet) → all ≡ texts ++ replicate (count - length texts) []
    → row ≡ row_of_texts sheet all → IsSheetRow row → ReadsNext (row_line wide) (IsRowIn sheet wide) old (Some row) new
row-filled sheet wide texts all count row old new read filled value is =
    let n : ℕ = count - length texts in
    let same : row ≡ row_of_texts sheet (texts ++ replicate n []) = value ∙ ap (row_of_texts sheet) filled in (
      read.0 ∙ ap (λ l. csv_line l ++ new) (sym (filled-shown sheet wide texts n read.1)) ∙ ap (λ r. row_line wide r ++ new) (sym same),
      ((is, ap (λ (r : SheetRow). r.sheet) same), ap (fits wide) same ∙ filled-fits sheet wide texts n read.1),
    )

pub row-one_way : (sheet : Sheet) (wide : Bool) (x y : SheetRow) (a b : List ℕ) → IsRowIn sheet wide x → IsRowIn sheet wide y
    → row_line wide x ++ a ≡ row_line wide y ++ b → (x ≡ y) × (a ≡ b)
row-one_way sheet wide x y a b is_x is_y e =
    let same = csv_line-one_way (column_count wide sheet) (shown_texts wide x) (shown_texts wide y) a b (length-shown sheet wide x is_x.0) (length-shown sheet wide y is_y.0) e in
    (same_shown sheet wide x y is_x is_y same.0, same.1)

csv_line-some : (texts : List Text) (rest : List ℕ) → 0 < length texts → csv_line texts ++ rest ≢ []
csv_line-some [] rest some e = absurd (omega arith)
csv_line-some (text ∷ texts) rest some e = let none : suc (length (drop 1 (csv_line (text ∷ texts) ++ rest))) ≡ 0 = ap length e in absurd (omega arith)

pub row-some : (sheet : Sheet) (wide : Bool) (row : SheetRow) (rest : List ℕ) → IsRowIn sheet wide row → row_line wide row ++ rest ≢ []
row-some sheet wide row rest is = csv_line-some (shown_texts wide row) rest (shown_texts-some sheet wide row is.0)

-- ---- changes

put_text : codes "PUT" ≡ 80 ∷ 85 ∷ 84 ∷ []
put_text = refl

drop_text : codes "DROP" ≡ 68 ∷ 82 ∷ 79 ∷ 80 ∷ []
drop_text = refl

-- the line of a change is that of its row, preceded by the action
pub put-line : (texts : List Text) → 0 < length texts → csv_line (codes "PUT" ∷ texts) ≡ put_bytes ++ csv_line texts
put-line [] some = absurd (omega arith)
put-line (text ∷ texts) some = ap (λ l. in_quotes l ++ (44 ∷ csv_line (text ∷ texts))) put_text

pub drop-line : (texts : List Text) → 0 < length texts → csv_line (codes "DROP" ∷ texts) ≡ drop_bytes ++ csv_line texts
drop-line [] some = absurd (omega arith)
drop-line (text ∷ texts) some = ap (λ l. in_quotes l ++ (44 ∷ csv_line (text ∷ texts))) drop_text

-- the rest after the action is UTF-8
pub put-utf8 : (rest : List ℕ) → IsUtf8 (put_bytes ++ rest) → IsUtf8 rest
put-utf8 rest is = utf8_behind (34 ∷ 80 ∷ 85 ∷ 84 ∷ 34 ∷ []) rest 44 (omega arith) is

pub drop-utf8 : (rest : List ℕ) → IsUtf8 (drop_bytes ++ rest) → IsUtf8 rest
drop-utf8 rest is = utf8_behind (34 ∷ 68 ∷ 82 ∷ 79 ∷ 80 ∷ 34 ∷ []) rest 44 (omega arith) is

-- the line of a change, split after the action
pub put-print : (sheet : Sheet) (wide : Bool) (row : SheetRow) (rest : List ℕ) → IsRowOfSheet sheet row
    → change_line wide (Change.Put row) ++ rest ≡ put_bytes ++ (row_line wide row ++ rest)
put-print sheet wide row rest is = ap (λ l. l ++ rest) (put-line (shown_texts wide row) (shown_texts-some sheet wide row is))
    ∙ append_assoc put_bytes (row_line wide row) rest

pub drop-print : (sheet : Sheet) (wide : Bool) (row : SheetRow) (rest : List ℕ) → IsRowOfSheet sheet row
    → change_line wide (Change.Drop row) ++ rest ≡ drop_bytes ++ (row_line wide row ++ rest)
drop-print sheet wide row rest is = ap (λ l. l ++ rest) (drop-line (shown_texts wide row) (shown_texts-some sheet wide row is))
    ∙ append_assoc drop_bytes (row_line wide row) rest

abbrev second : List ℕ → ℕ
second (a ∷ b ∷ bytes) = b
second other = 0

put≢drop : (a b : List ℕ) → put_bytes ++ a ≢ drop_bytes ++ b
put≢drop a b e = false≢true (ap (λ l. second l == 68) e)

cut_put : (a b : List ℕ) → put_bytes ++ a ≡ put_bytes ++ b → a ≡ b
cut_put a b e = ap (drop 6) e

cut_drop : (a b : List ℕ) → drop_bytes ++ a ≡ drop_bytes ++ b → a ≡ b
cut_drop a b e = ap (drop 7) e

-- a row after `PUT`
pub put-read : (sheet : Sheet) (wide : Bool) (row : SheetRow) (old new : List ℕ) → ReadsNext (row_line wide) (IsRowIn sheet wide) old (Some row) new
    → ReadsNext (change_line wide) (IsChangeIn sheet wide) (put_bytes ++ old) (Some (Change.Put row)) new
put-read sheet wide row old new read =
    (ap (λ l. put_bytes ++ l) read.0 ∙ sym (put-print sheet wide row new read.1.0), ((read.1.0, tt), read.1.1))

pub put-none : (sheet : Sheet) (wide : Bool) (old new : List ℕ) → ReadsNext (row_line wide) (IsRowIn sheet wide) old None new
    → ReadsNext (change_line wide) (IsChangeIn sheet wide) (put_bytes ++ old) None new
put-none sheet wide old new none (Change.Put row) rest is e = none row rest (is.0.0, is.1) (cut_put old (row_line wide row ++ rest) (e ∙ put-print sheet wide row rest is.0.0))
put-none sheet wide old new none (Change.Drop row) rest is e = put≢drop old (row_line wide row ++ rest) (e ∙ drop-print sheet wide row rest is.0.0)

-- a row after `DROP`
pub drop-read : (sheet : Sheet) (wide : Bool) (row : SheetRow) (old new : List ℕ) → ReadsNext (row_line wide) (IsRowIn sheet wide) old (Some row) new
    → is_key_alone row ≡ true → ReadsNext (change_line wide) (IsChangeIn sheet wide) (drop_bytes ++ old) (Some (Change.Drop row)) new
drop-read sheet wide row old new read alone =
    (ap (λ l. drop_bytes ++ l) read.0 ∙ sym (drop-print sheet wide row new read.1.0), ((read.1.0, alone), read.1.1))

pub drop-none : (sheet : Sheet) (wide : Bool) (old new : List ℕ) → ReadsNext (row_line wide) (IsRowIn sheet wide) old None new
    → ReadsNext (change_line wide) (IsChangeIn sheet wide) (drop_bytes ++ old) None new
drop-none sheet wide old new none (Change.Drop row) rest is e = none row rest (is.0.0, is.1) (cut_drop old (row_line wide row ++ rest) (e ∙ drop-print sheet wide row rest is.0.0))
drop-none sheet wide old new none (Change.Put row) rest is e = put≢drop (row_line wide row ++ rest) old (sym (e ∙ put-print sheet wide row rest is.0.0))

pub drop-others : (sheet : Sheet) (wide : Bool) (row : SheetRow) (old new : List ℕ) → ReadsNext (row_line wide) (IsRowIn sheet wide) old (Some row) new
    → is_key_alone row ≡ false → (after : List ℕ) → ReadsNext (change_line wide) (IsChangeIn sheet wide) (drop_bytes ++ old) None after
drop-others sheet wide row old new read others after (Change.Put x) rest is e = put≢drop (row_line wide x ++ rest) old (sym (e ∙ put-print sheet wide x rest is.0.0))
drop-others sheet wide row old new read others after (Change.Drop x) rest is e =
    let same = row-one_way sheet wide row x new rest read.1 (is.0.0, is.1) (sym read.0 ∙ cut_drop old (row_line wide x ++ rest) (e ∙ drop-print sheet wide x rest is.0.0)) in
    false≢true (sym others ∙ ap is_key_alone same.0 ∙ is.0.1)

-- neither of the two
pub change-none : (sheet : Sheet) (wide : Bool) (old new : List ℕ) → ((rest : List ℕ) → old ≢ put_bytes ++ rest) → ((rest : List ℕ) → old ≢ drop_bytes ++ rest)
    → ReadsNext (change_line wide) (IsChangeIn sheet wide) old None new
change-none sheet wide old new no_put no_drop (Change.Put row) rest is e = no_put (row_line wide row ++ rest) (e ∙ put-print sheet wide row rest is.0.0)
change-none sheet wide old new no_put no_drop (Change.Drop row) rest is e = no_drop (row_line wide row ++ rest) (e ∙ drop-print sheet wide row rest is.0.0)

pub change-one_way : (sheet : Sheet) (wide : Bool) (x y : Change) (a b : List ℕ) → IsChangeIn sheet wide x → IsChangeIn sheet wide y
    → change_line wide x ++ a ≡ change_line wide y ++ b → (x ≡ y) × (a ≡ b)
change-one_way sheet wide (Change.Put x) (Change.Put y) a b is_x is_y e =
    let same = row-one_way sheet wide x y a b (is_x.0.0, is_x.1) (is_y.0.0, is_y.1) (cut_put (row_line wide x ++ a) (row_line wide y ++ b)
    (sym (put-print sheet wide x a is_x.0.0) ∙ e ∙ put-print sheet wide y b is_y.0.0)) in
    (ap Change.Put same.0, same.1)
change-one_way sheet wide (Change.Put x) (Change.Drop y) a b is_x is_y e =
    absurd (put≢drop (row_line wide x ++ a) (row_line wide y ++ b) (sym (put-print sheet wide x a is_x.0.0) ∙ e ∙ drop-print sheet wide y b is_y.0.0))
change-one_way sheet wide (Change.Drop x) (Change.Put y) a b is_x is_y e =
    absurd (put≢drop (row_line wide y ++ b) (row_line wide x ++ a) (sym (sym (drop-print sheet wide x a is_x.0.0) ∙ e ∙ put-print sheet wide y b is_y.0.0)))
change-one_way sheet wide (Change.Drop x) (Change.Drop y) a b is_x is_y e =
    let same = row-one_way sheet wide x y a b (is_x.0.0, is_x.1) (is_y.0.0, is_y.1) (cut_drop (row_line wide x ++ a) (row_line wide y ++ b)
    (sym (drop-print sheet wide x a is_x.0.0) ∙ e ∙ drop-print sheet wide y b is_y.0.0)) in
    (ap Change.Drop same.0, same.1)

pub change-some : (sheet : Sheet) (wide : Bool) (change : Change) (rest : List ℕ) → IsChangeIn sheet wide change → change_line wide change ++ rest ≢ []
change-some sheet wide (Change.Put row) rest is e =
    let none : suc (length (drop 1 (put_bytes ++ (row_line wide row ++ rest)))) ≡ 0 = ap length (sym (put-print sheet wide row rest is.0.0) ∙ e) in absurd (omega arith)
change-some sheet wide (Change.Drop row) rest is e =
    let none : suc (length (drop 1 (drop_bytes ++ (row_line wide row ++ rest)))) ≡ 0 = ap length (sym (drop-print sheet wide row rest is.0.0) ∙ e) in absurd (omega arith)

-- ---- printing

pub column_names-full : (sheet : Sheet) → length (column_names sheet) ≡ width sheet
unfolding fields relation_fields exception_fields
column_names-full Sheet.Lei = refl
column_names-full Sheet.Rr = refl
column_names-full Sheet.Repex = refl

pub length-names_shown : (wide : Bool) (sheet : Sheet) → length (names_shown wide sheet) ≡ column_count wide sheet
length-names_shown wide sheet =
    let full = column_names-full sheet in
    let within = column_count-within wide sheet in
    length-take-le (column_count wide sheet) (column_names sheet) (omega arith)

pub text_at-next : (xs : List Text) (i : ℕ) → text_at xs (i + 1) ≡ get_or xs i []
text_at-next xs i = elim (eqb_tells (i + 1) 0) [
  | inl is ↦ absurd (let wrong : i + 1 ≡ 0 = is.1 in omega arith)
  | inr is ↦
      let same : i + 1 - 1 ≡ i = omega arith in
      ap (λ t. cond t [] (get_or xs (i + 1 - 1) [])) is.0 ∙ ap (λ n. get_or xs n []) same
]

-- a text of a list is the text of its prefix at the same place
pub text_at-take : (xs : List Text) (n i : ℕ) → i < n → text_at xs (i + 1) ≡ text_at (take n xs) (i + 1)
text_at-take xs n i before = text_at-next xs i ∙ sym (get_or-take n xs i [] before) ∙ sym (text_at-next (take n xs) i)

-- ---- a line and its fields

pub csv_line-fields : (texts : List Text) → 0 < length texts → csv_fields_text texts ++ 10 ∷ [] ≡ csv_line texts
csv_line-fields [] some = absurd (omega arith)
csv_line-fields (text ∷ []) some = ap (λ l. l ++ 10 ∷ []) (append-nil (in_quotes text))
csv_line-fields (text ∷ next ∷ texts) some =
    append_assoc (in_quotes text) (44 ∷ csv_fields_text (next ∷ texts)) (10 ∷ [])
    ∙ ap (λ l. in_quotes text ++ (44 ∷ l)) (csv_line-fields (next ∷ texts) (omega arith))

fields-append : (xs ys : List Text) → 0 < length xs → csv_fields_text (xs ++ ys) ≡ csv_fields_text xs ++ flat_map after_comma ys
fields-append [] ys some = absurd (omega arith)
fields-append (x ∷ xs) ys some = ap (λ l. in_quotes x ++ l) (flat_map-append after_comma xs ys)
    ∙ sym (append_assoc (in_quotes x) (flat_map after_comma xs) (flat_map after_comma ys))

-- the line of a row consists of its start and of what a wide file has in addition
pub row-joined : (wide : Bool) (row : SheetRow) → IsSheetRow row
    → row_start row ++ ((if wide then row_tail row else []) ++ 10 ∷ []) ≡ row_line wide row
row-joined false row is = csv_line-fields (shown_texts false row) (shown_texts-some row.sheet false row (is, refl))
row-joined true row is =
    let n : ℕ = column_count false row.sheet in
    let full : length row.texts ≡ column_count true row.sheet = is.full ∙ sym (column_count-all row.sheet) in
    let all : shown_texts true row ≡ row.texts = take_all (column_count true row.sheet) row.texts (omega arith) in
    let split : row.texts ≡ shown_texts false row ++ drop n row.texts = sym (take-append-drop n row.texts) in
    sym (append_assoc (row_start row) (row_tail row) (10 ∷ []))
    ∙ ap (λ l. l ++ 10 ∷ []) (sym (fields-append (shown_texts false row) (drop n row.texts) (shown_texts-some row.sheet false row (is, refl))))
    ∙ ap (λ l. csv_fields_text l ++ 10 ∷ []) (sym split ∙ sym all)
    ∙ csv_line-fields (shown_texts true row) (shown_texts-some row.sheet true row (is, refl))

-- if a row fits a narrow file, what a wide one has in addition is empty fields
pub tail-empty : (sheet : Sheet) (row : SheetRow) → IsRowIn sheet false row
    → row_tail row ≡ flat_map after_comma (replicate (width sheet - column_count false sheet) [])
tail-empty sheet row is = ap (flat_map after_comma) (left_out-empty sheet false row is)

-- fields each preceded by a comma
pub comma-fields : (texts : List Text) → 0 < length texts → 44 ∷ csv_fields_text texts ≡ flat_map after_comma texts
comma-fields [] some = absurd (omega arith)
comma-fields (text ∷ texts) some = refl

-- ---- what is printed is UTF-8

parts : (a b : Bool) → (a && b) ≡ true → (a ≡ true) × (b ≡ true)
parts true b e = (refl, e)
parts false b e = absurd (false≢true e)

utf8-quoted : (text : Text) → IsUtf8 text → IsUtf8 (in_quotes text)
utf8-quoted text is = utf8_joined [] (flat_map field_byte text ++ 34 ∷ []) 34 (omega arith) IsUtf8-nil
    (utf8_joined (flat_map field_byte text) [] 34 (omega arith) (utf8_doubled [] text is) IsUtf8-nil)

low : (texts : List Text) → separator texts < 128
low [] = omega arith
low (text ∷ texts) = omega arith

pub utf8-line : (texts : List Text) → list_all is_utf8 texts ≡ true → IsUtf8 (csv_line texts)
utf8-line [] all = IsUtf8-nil
utf8-line (text ∷ texts) all =
    let both = parts (is_utf8 text) (list_all is_utf8 texts) all in
    utf8_joined (in_quotes text) (csv_line texts) (separator texts) (low texts) (utf8-quoted text (IsUtf8-from_is_utf8 text both.0)) (utf8-line texts both.1)

all-take : (p : Text → Bool) (n : ℕ) (xs : List Text) → list_all p xs ≡ true → list_all p (take n xs) ≡ true
all-take p zero xs all = refl
all-take p (suc n) [] all = refl
all-take p (suc n) (x ∷ xs) all =
    let both = parts (p x) (list_all p xs) all in ap (λ b. b && list_all p (take n xs)) both.0 ∙ all-take p n xs both.1

pub utf8-row : (sheet : Sheet) (wide : Bool) (row : SheetRow) → IsRowOfSheet sheet row → IsUtf8 (row_line wide row)
utf8-row sheet wide row is = utf8-line (shown_texts wide row) (all-take is_utf8 (column_count wide row.sheet) row.texts is.0.utf8)

before : (b : ℕ) (bytes : List ℕ) → b < 128 → IsUtf8 bytes → IsUtf8 (b ∷ bytes)
before b bytes low is = utf8_joined [] bytes b low IsUtf8-nil is

quote_comma : IsUtf8 (34 ∷ 44 ∷ [])
quote_comma = before 34 (44 ∷ []) (omega arith) (before 44 [] (omega arith) IsUtf8-nil)

put_utf8 : IsUtf8 put_bytes
put_utf8 = before 34 (80 ∷ 85 ∷ 84 ∷ 34 ∷ 44 ∷ []) (omega arith) (before 80 (85 ∷ 84 ∷ 34 ∷ 44 ∷ []) (omega arith)
    (before 85 (84 ∷ 34 ∷ 44 ∷ []) (omega arith) (before 84 (34 ∷ 44 ∷ []) (omega arith) quote_comma)))

drop_utf8 : IsUtf8 drop_bytes
drop_utf8 = before 34 (68 ∷ 82 ∷ 79 ∷ 80 ∷ 34 ∷ 44 ∷ []) (omega arith) (before 68 (82 ∷ 79 ∷ 80 ∷ 34 ∷ 44 ∷ []) (omega arith)
    (before 82 (79 ∷ 80 ∷ 34 ∷ 44 ∷ []) (omega arith) (before 79 (80 ∷ 34 ∷ 44 ∷ []) (omega arith) (before 80 (34 ∷ 44 ∷ []) (omega arith) quote_comma))))

pub utf8-change : (sheet : Sheet) (wide : Bool) (change : Change) → IsChangeOf sheet change → IsUtf8 (change_line wide change)
utf8-change sheet wide (Change.Put row) is = let F : List ℕ → Type 0 = IsUtf8 in
    subst F (sym (put-line (shown_texts wide row) (shown_texts-some sheet wide row is.0)))
    (IsUtf8-append put_bytes (row_line wide row) put_utf8 (utf8-row sheet wide row is.0))
utf8-change sheet wide (Change.Drop row) is = let F : List ℕ → Type 0 = IsUtf8 in
    subst F (sym (drop-line (shown_texts wide row) (shown_texts-some sheet wide row is.0)))
    (IsUtf8-append drop_bytes (row_line wide row) drop_utf8 (utf8-row sheet wide row is.0))

pub utf8-all : {X : Type 0} (print : X → List ℕ) (Good : X → Type 0) → ((x : X) → Good x → IsUtf8 (print x)) → (xs : List X) → All Good xs
    → IsUtf8 (flat_map print xs)
utf8-all print Good each [] all = IsUtf8-nil
utf8-all print Good each (x ∷ xs) all = IsUtf8-append (print x) (flat_map print xs) (each x (All-head Good x xs all))
    (utf8-all print Good each xs (All-tail Good x xs all))
