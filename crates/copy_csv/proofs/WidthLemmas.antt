-- The texts of rows that files of each width have.
use Rattle.std.proofs.Common.{◌≡◌, ℕ, zero, suc, ◌+◌, ◌-◌, ◌<◌, ◌≤◌, Bool, true, false, ◌&&◌, inl, inr, List, [], ◌∷◌, ◌++◌, length, drop, refl, sym, ap, ◌∙◌, arith, append_assoc, length-append}
use Rattle.std.specs.Prelude.{replicate}
use Rattle.std.specs.List.{list_all}
use Rattle.std.specs.Str.{bytes_eq}
use Rattle.std.proofs.lemmas.Bool.{false≢true}
use Rattle.std.proofs.lemmas.Bool.Decides.{eqb_tells}
use Rattle.std.proofs.lemmas.List.{append-nil, drop_all, drop_at, drop-drop, length-drop, length-replicate, length-take-le, take-append-drop, take_at}
use Rattle.lei_code.specs.Texts.{Text}
use Rattle.lei_records.specs.Spelled.{is_absent}
use Rattle.register_words.specs.declared.sheets.Sheet.{Sheet}
use Rattle.copy_csv.specs.Rows.{IsRowIn, IsRowOfSheet}
use Rattle.copy_csv.specs.Sheets.{SheetRow, column_count, fits, has_widths, is_key_alone, key_len, left_out, row_of_texts, shown_texts, width}

pub column_count-some : (wide : Bool) (sheet : Sheet) → 0 < column_count wide sheet
column_count-some true Sheet.Lei = omega arith
column_count-some false Sheet.Lei = omega arith
column_count-some wide Sheet.Rr = omega arith
column_count-some wide Sheet.Repex = omega arith

pub column_count-within : (wide : Bool) (sheet : Sheet) → column_count wide sheet ≤ width sheet
column_count-within true Sheet.Lei = omega arith
column_count-within false Sheet.Lei = omega arith
column_count-within wide Sheet.Rr = omega arith
column_count-within wide Sheet.Repex = omega arith

pub column_count-all : (sheet : Sheet) → column_count true sheet ≡ width sheet
column_count-all Sheet.Lei = refl
column_count-all Sheet.Rr = refl
column_count-all Sheet.Repex = refl

-- a sheet with one width has that width in files that are called wide, too
pub column_count-one : (sheet : Sheet) (wide : Bool) → has_widths sheet ≡ false → column_count wide sheet ≡ width sheet
column_count-one Sheet.Lei wide one = absurd (false≢true (sym one))
column_count-one Sheet.Rr wide one = refl
column_count-one Sheet.Repex wide one = refl

key-within : (wide : Bool) (sheet : Sheet) → key_len sheet ≤ column_count wide sheet
key-within true Sheet.Lei = omega arith
key-within false Sheet.Lei = omega arith
key-within wide Sheet.Rr = omega arith
key-within wide Sheet.Repex = omega arith

pub row_width : (sheet : Sheet) (row : SheetRow) → IsRowOfSheet sheet row → length row.texts ≡ width sheet
row_width sheet row is = is.0.full ∙ ap width is.1

-- a row of the sheet has a text for each column
pub length-shown : (sheet : Sheet) (wide : Bool) (row : SheetRow) → IsRowOfSheet sheet row → length (shown_texts wide row) ≡ column_count wide sheet
length-shown sheet wide row is =
    let all = row_width sheet row is in
    let within = column_count-within wide sheet in
    let same : column_count wide row.sheet ≡ column_count wide sheet = ap (column_count wide) is.1 in
    length-take-le (column_count wide row.sheet) row.texts (rw same (omega arith)) ∙ same

pub shown_texts-some : (sheet : Sheet) (wide : Bool) (row : SheetRow) → IsRowOfSheet sheet row → 0 < length (shown_texts wide row)
shown_texts-some sheet wide row is = let some = column_count-some wide sheet in let long = length-shown sheet wide row is in omega arith

-- ---- texts that a file leaves out

and-parts : (a b : Bool) → (a && b) ≡ true → (a ≡ true) × (b ≡ true)
and-parts true b e = (refl, e)
and-parts false b e = absurd (false≢true e)

absent-empty : (text : Text) → is_absent text ≡ true → text ≡ []
absent-empty [] e = refl
absent-empty (b ∷ text) e = elim (eqb_tells (length (b ∷ text)) 0) [
  | inl is ↦ absurd (let wrong : suc (length text) ≡ 0 = is.1 in omega arith)
  | inr is ↦ absurd (false≢true (sym is.0 ∙ e))
]

absent-all : (xs : List Text) → list_all is_absent xs ≡ true → xs ≡ replicate (length xs) []
absent-all [] all = refl
absent-all (x ∷ xs) all =
    let parts = and-parts (is_absent x) (list_all is_absent xs) all in λ i. absent-empty x parts.0 i ∷ absent-all xs parts.1 i

pub absent-replicate : (n : ℕ) → list_all is_absent (replicate n []) ≡ true
absent-replicate zero = refl
absent-replicate (suc n) = absent-replicate n

-- only empty texts of a row that fits are left out
pub left_out-empty : (sheet : Sheet) (wide : Bool) (row : SheetRow) → IsRowIn sheet wide row
    → left_out wide row ≡ replicate (width sheet - column_count wide sheet) []
left_out-empty sheet wide row is =
    absent-all (left_out wide row) is.1
    ∙ ap (λ m. replicate m []) (length-drop (column_count wide row.sheet) row.texts ∙ (λ i. row_width sheet row is.0 i - column_count wide (is.0.1 i)))

-- so the row consists of the texts that the file has, followed by empty texts
pub fitted : (sheet : Sheet) (wide : Bool) (row : SheetRow) → IsRowIn sheet wide row
    → row.texts ≡ shown_texts wide row ++ replicate (width sheet - column_count wide sheet) []
fitted sheet wide row is =
    sym (take-append-drop (column_count wide row.sheet) row.texts) ∙ ap (λ l. shown_texts wide row ++ l) (left_out-empty sheet wide row is)

-- and those texts determine the row
pub same_shown : (sheet : Sheet) (wide : Bool) (x y : SheetRow) → IsRowIn sheet wide x → IsRowIn sheet wide y
    → shown_texts wide x ≡ shown_texts wide y → x ≡ y
same_shown sheet wide x y is_x is_y e =
    let sheets : x.sheet ≡ y.sheet = is_x.0.1 ∙ sym is_y.0.1 in
    let texts : x.texts ≡ y.texts = fitted sheet wide x is_x
    ∙ ap (λ l. l ++ replicate (width sheet - column_count wide sheet) []) e ∙ sym (fitted sheet wide y is_y) in
    λ i. record { sheet = sheets i; texts = texts i }

-- ---- rows that fit

-- if a file has a column for each field, each row fits
pub fits-all : (sheet : Sheet) (wide : Bool) (row : SheetRow) → IsRowOfSheet sheet row → column_count wide sheet ≡ width sheet → fits wide row ≡ true
fits-all sheet wide row is all =
    let full : length row.texts ≡ width sheet = row_width sheet row is in
    let same : column_count wide row.sheet ≡ column_count wide sheet = ap (column_count wide) is.1 in
    ap (list_all is_absent) (drop_all (column_count wide row.sheet) row.texts (rw (same, all, full) (omega arith)))

alone-absent : (xs : List Text) → list_all (λ text. bytes_eq text []) xs ≡ true → list_all is_absent xs ≡ true
alone-absent [] all = refl
alone-absent ([] ∷ xs) all = alone-absent xs all
alone-absent ((b ∷ text) ∷ xs) all = absurd (false≢true all)

all-drop : (p : Text → Bool) (n : ℕ) (xs : List Text) → list_all p xs ≡ true → list_all p (drop n xs) ≡ true
all-drop p zero xs all = all
all-drop p (suc n) [] all = refl
all-drop p (suc n) (x ∷ xs) all = all-drop p n xs (and-parts (p x) (list_all p xs) all).1

-- a row that has only a key fits each file
pub fits-alone : (wide : Bool) (row : SheetRow) → is_key_alone row ≡ true → fits wide row ≡ true
fits-alone wide row alone =
    let k : ℕ = key_len row.sheet in
    let n : ℕ = column_count wide row.sheet in
    let within : key_len row.sheet ≤ column_count wide row.sheet = key-within wide row.sheet in
    let split : k + (n - k) ≡ n = omega arith in
    ap (list_all is_absent) (ap (λ m. drop m row.texts) (sym split) ∙ sym (drop-drop (n - k) k row.texts))
    ∙ all-drop is_absent (n - k) (drop k row.texts) (alone-absent (drop k row.texts) alone)

-- ---- rows that are filled up

-- a line's texts, with an empty text for each column that it lacks, are the row whose line it is
pub filled-shown : (sheet : Sheet) (wide : Bool) (texts : List Text) (n : ℕ) → length texts ≡ column_count wide sheet
    → shown_texts wide (row_of_texts sheet (texts ++ replicate n [])) ≡ texts
filled-shown sheet wide texts n long = take_at texts (replicate n []) (column_count wide sheet) long

pub filled-fits : (sheet : Sheet) (wide : Bool) (texts : List Text) (n : ℕ) → length texts ≡ column_count wide sheet
    → fits wide (row_of_texts sheet (texts ++ replicate n [])) ≡ true
filled-fits sheet wide texts n long =
    ap (list_all is_absent) (drop_at texts (replicate n []) (column_count wide sheet) long) ∙ absent-replicate n

-- one more empty text is appended, and none is left to append
pub filled-step : (texts : List Text) (count counter : ℕ) → counter < count
    → (texts ++ [] ∷ []) ++ replicate (count - (counter + 1)) [] ≡ texts ++ replicate (count - counter) []
filled-step texts count counter before =
    let more : suc (count - (counter + 1)) ≡ count - counter = omega arith in
    append_assoc texts ([] ∷ []) (replicate (count - (counter + 1)) []) ∙ ap (λ n. texts ++ replicate n []) more

pub filled-end : (texts all : List Text) (count counter : ℕ) → count ≤ counter → texts ++ replicate (count - counter) [] ≡ all → texts ≡ all
filled-end texts all count counter behind is =
    let none : count - counter ≡ 0 = omega arith in
    sym (append-nil texts) ∙ ap (λ n. texts ++ replicate n []) (sym none) ∙ is

pub length-filled : (sheet : Sheet) (wide : Bool) (texts all : List Text) (count : ℕ) → length texts ≡ column_count wide sheet
    → count ≡ width sheet → all ≡ texts ++ replicate (count - length texts) [] → length all ≡ width sheet
length-filled sheet wide texts all count long count_is filled =
    let within : column_count wide sheet ≤ width sheet = column_count-within wide sheet in
    ap length filled ∙ length-append texts (replicate (count - length texts) [])
    ∙ ap (λ n. length texts + n) (length-replicate (count - length texts) []) ∙ omega arith
