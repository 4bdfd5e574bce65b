-- What is read from JSON: the only value whose text is printed there, and the bytes after it. Nothing is read if no
-- such text is there.
use Rattle.std.specs.Prelude.{◌≡◌, ℕ, zero, suc, List, [], ◌∷◌, ◌++◌, ◌==◌, nat_lt, Bool, true, false, ◌||◌, if◌then◌else◌, Option, Some, None, Result, Ok, Err, option_map, option_and_then, ℤ, ◌^◌, ◌&&◌, nat_le, decimal, codes, take, drop, map, ⊤}
use Rattle.std.specs.Str.{bytes_eq, is_utf8}
use Rattle.std.specs.Borrow.{Bor}
use Rattle.std.specs.List.{All, prefix_len}
use Rattle.std.specs.Char.{is_ascii_digit}
use Rattle.std.specs.Str.Parse.{digits_value}
use Rattle.lei_shapes.specs.Clock.{moment_text}
use Rattle.lei_shapes.specs.Moment.{read_moment}
use Rattle.json.specs.Print.{escape, escape_byte, quoted}
use Rattle.json.specs.Text.{content, plain}
use Rattle.lei_code.specs.Texts.{Text}
use Rattle.lei_records.specs.Rows.{text_at}
use Rattle.lei_records.specs.Spelled.{is_absent}
use Rattle.serde_json.specs.Written.{comma_if}
use Rattle.register_words.specs.declared.sheets.Sheet.{Sheet}
use Rattle.copy_csv.specs.Sheets.{SheetRow, is_key_alone, row_of_texts}
use Rattle.copy_forms.specs.Json.{json_copy, json_delta, json_names}
use Rattle.copy_csv.specs.declared.heads.Head.{Head}
use Rattle.copy_csv.specs.declared.rows.Change.{Change}
use Rattle.copy_forms.specs.JsonTexts.{before_record, lead}
use Rattle.copy_csv.specs.Rows.{IsChangeOf, IsCopyHead, IsDeltaHead, IsRowOfSheet}
use Rattle.copy_csv.specs.declared.faults.FormFault.{FormFault}
use Rattle.copy_csv.specs.declared.faults.FormFault.TheVariants as faults

-- The bytes after a prefix, if they start with it.
abbrev pub after_front : List ℕ → List ℕ → Option (List ℕ)
after_front [] bytes = Some bytes
after_front (x ∷ front) [] = None
after_front (x ∷ front) (y ∷ bytes) = if y == x then after_front front bytes else None

-- The text of a string, read from after its opening quote, and the bytes after it. Each escape is the one that is
-- printed.
unfoldable pub string_from : List ℕ → Option (List ℕ × List ℕ)
string_from bytes =
    option_and_then (λ text. option_map (λ rest. (text, rest)) (after_front (escape text ++ 34 ∷ []) bytes))
    (content plain bytes)

-- A byte that is printed as an escape: the quote, the backslash and the control characters.
abbrev pub is_escaped : ℕ → Bool
is_escaped byte = (byte == 34) || (byte == 92) || nat_lt byte 32

-- These bytes: the quote, the backslash, and those below 32.
abbrev pub must_escape : List ℕ
must_escape =
    34 ∷ 92 ∷ 0 ∷ 1 ∷ 2 ∷ 3 ∷ 4 ∷ 5 ∷ 6 ∷ 7 ∷ 8 ∷ 9 ∷ 10 ∷ 11 ∷ 12 ∷ 13 ∷ 14 ∷ 15 ∷ 16 ∷ 17 ∷ 18 ∷ 19
    ∷ 20 ∷ 21 ∷ 22 ∷ 23
    ∷ 24 ∷ 25 ∷ 26 ∷ 27 ∷ 28 ∷ 29 ∷ 30 ∷ 31 ∷ []

-- Each of these bytes with its escape.
unfoldable pub escapes : List (ℕ × List ℕ)
escapes = map (λ byte. (byte, escape_byte byte)) must_escape

-- An entry whose escape is borrowed.
abbrev pub read_escape : ℕ × Bor (List ℕ) → ℕ × List ℕ
read_escape entry = (entry.0, entry.1.now)

-- The bytes don't start with an escape.
pub record HasNoEscape (bytes : List ℕ) : Type 0 where
  pub each : (byte : ℕ) → is_escaped byte ≡ true → after_front (escape_byte byte) bytes ≡ None

-- `NotRead` says that there is nothing to be read. Out of memory says nothing.
abbrev pub JsonFails : {Y : Type 0} → FormFault → Option Y → Type 0
JsonFails faults.NotRead found = found ≡ None
JsonFails faults.NoMemory found = ⊤

-- A reader returns what is to be read, as contracts see it, and fails only as `JsonFails` allows.
abbrev pub JsonGives : {X Y : Type 0} → (X → Y) → Result X FormFault → Option Y → Type 0
JsonGives view (Ok x) found = found ≡ Some (view x)
JsonGives view (Err fault) found = JsonFails fault found

-- ---- a record

-- A text that a record may have: it isn't empty, and it is UTF-8.
abbrev pub utf8_text : Text → Option Text
utf8_text text = if is_absent text then None else if is_utf8 text then Some text else None

-- The text of a field, read from after its opening quote, and the bytes after it.
unfoldable pub json_text_from : List ℕ → Option (Text × List ℕ)
json_text_from bytes = option_and_then (λ read. option_map (λ text. (text, read.1)) (utf8_text read.0))
    (string_from bytes)

-- What is read from a field: its text, whether a field precedes what follows, and the bytes that follow.
pub record FieldRead : Type 0 where
  pub text : Text
  pub later : Bool
  pub rest : List ℕ

-- A field that is present, given what is read after its lead.
abbrev pub present_field : Option (Text × List ℕ) → Option FieldRead
present_field found = option_map (λ read. record { text = read.0; later = true; rest = read.1 }) found

-- A field, given the bytes after its lead. Its text is empty if the lead doesn't come next.
abbrev pub field_after : Bool → List ℕ → Option (List ℕ) → Option FieldRead
field_after later bytes None = Some (record { text = []; later = later; rest = bytes })
field_after later bytes (Some rest) = present_field (json_text_from rest)

-- A field with this name: its text, or the empty text if the field doesn't come next.
unfoldable pub json_field_from : Text → Bool → List ℕ → Option FieldRead
json_field_from name later bytes = field_after later bytes (after_front (lead later name) bytes)

-- The texts of the fields with these names, and the bytes after the brace that closes their object.
unfoldable pub fields_from : List Text → Bool → List ℕ → Option (List Text × List ℕ)
fields_from [] later bytes = option_map (λ rest. ([], rest)) (after_front (125 ∷ []) bytes)
fields_from (name ∷ names) later bytes =
    option_and_then (λ field. option_map (λ read. (field.text ∷ read.0, read.1))
    (fields_from names field.later field.rest))
    (json_field_from name later bytes)

-- For each field of a sheet, in order of place, its position in byte order of the names, counted from 1.
abbrev pub json_ranks : Sheet → List ℕ
json_ranks Sheet.Lei =
    25 ∷ 20 ∷ 21 ∷ 15 ∷ 13 ∷ 17 ∷ 14 ∷ 16 ∷ 10 ∷ 8 ∷ 12 ∷ 9 ∷ 11 ∷ 23 ∷ 22 ∷ 19 ∷ 1 ∷ 18 ∷ 3 ∷ 2 ∷ 24 ∷ 27 ∷ 28
    ∷ 31 ∷ 30 ∷ 29 ∷ 32 ∷ 26 ∷ 7 ∷ 4 ∷ 5 ∷ 6 ∷ []
json_ranks Sheet.Rr = 11 ∷ 9 ∷ 7 ∷ 8 ∷ 10 ∷ 6 ∷ 1 ∷ 2 ∷ 4 ∷ 3 ∷ 5 ∷ []
json_ranks Sheet.Repex = 4 ∷ 1 ∷ 2 ∷ 3 ∷ []

-- The row of texts that are in byte order of their fields' names.
unfoldable pub row_by_names : Sheet → List Text → SheetRow
row_by_names sheet texts = row_of_texts sheet (map (text_at texts) (json_ranks sheet))

-- The row of a record, and the bytes after it.
unfoldable pub record_from : Sheet → List ℕ → Option (SheetRow × List ℕ)
record_from sheet bytes =
    option_and_then (λ rest. option_map (λ read. (row_by_names sheet read.0, read.1))
    (fields_from (json_names sheet) false rest))
    (after_front (123 ∷ []) bytes)

-- The change that a row was read for, if the row may be in one. The flag says that the row is put. The row of a dropped
-- key has only the key.
abbrev pub change_with_row : Bool → SheetRow → Option Change
change_with_row true row = Some (Change.Put row)
change_with_row false row = if is_key_alone row then Some (Change.Drop row) else None

-- A change with whose record these bytes start, and the bytes after the brace that closes the change.
abbrev pub changed_from : Sheet → Bool → List ℕ → Option (Change × List ℕ)
changed_from sheet puts bytes =
    option_and_then (λ read. option_and_then
    (λ rest. option_map (λ change. (change, rest)) (change_with_row puts read.0)) (after_front (125 ∷ []) read.1))
    (record_from sheet bytes)

-- The same, given the bytes after the start of a change that puts a row, or else after that of one that drops a key.
abbrev pub change_after : Sheet → Option (List ℕ) → Option (List ℕ) → Option (Change × List ℕ)
change_after sheet (Some rest) others = changed_from sheet true rest
change_after sheet None (Some rest) = changed_from sheet false rest
change_after sheet None None = None

-- A change, and the bytes after it.
unfoldable pub change_from : Sheet → List ℕ → Option (Change × List ℕ)
change_from sheet bytes =
    change_after sheet (after_front (before_record (codes "PUT") []) bytes) (after_front (before_record (codes "DROP") []) bytes)

-- ---- the records of a file

-- This many items, up to the end of the bytes, given how one item is read.
unfoldable pub items_from : {A : Type 0} → (List ℕ → Option (A × List ℕ)) → ℕ → Bool → List ℕ
    → Option (List A)
items_from item zero later bytes = if bytes_eq bytes (93 ∷ 125 ∷ []) then Some [] else None
items_from item (suc n) later bytes =
    option_and_then (λ rest. option_and_then
    (λ read. option_map (λ others. read.0 ∷ others) (items_from item n true read.1)) (item rest))
    (after_front (comma_if later) bytes)

-- ---- the start of a file

-- The number whose decimal form these digits are. It is below 2^64, and no extra zero precedes it.
unfoldable pub publication_number_in : List ℕ → Option ℕ
publication_number_in digits =
    if nat_lt (digits_value 10 digits) (2 ^ 64) && bytes_eq (decimal (digits_value 10 digits)) digits then
    Some (digits_value 10 digits) else None

-- A number, and the bytes after its digits.
unfoldable pub number_from : List ℕ → Option (ℕ × List ℕ)
number_from bytes =
    let count = prefix_len is_ascii_digit bytes in
    option_map (λ number. (number, drop count bytes)) (publication_number_in (take count bytes))

-- The moment whose printed form a text is.
abbrev pub printed_moment : Text → Option ℤ
printed_moment text =
    if is_utf8 text then option_and_then
    (λ moment. if bytes_eq (moment_text moment) text then Some moment else None) (read_moment text)
    else None

-- A moment, read from after its opening quote, and the bytes after it.
unfoldable pub moment_from : List ℕ → Option (ℤ × List ℕ)
moment_from bytes = option_and_then (λ read. option_map (λ moment. (moment, read.1)) (printed_moment read.0))
    (string_from bytes)

-- What precedes the moment of a file.
abbrev pub date_start : Text
date_start = 123 ∷ (quoted (codes "contentDate") ++ 58 ∷ 34 ∷ [])

-- What precedes the number of a member with this name.
abbrev pub number_start : Text → Text
number_start name = 44 ∷ (quoted name ++ 58 ∷ [])

-- What precedes the records of a file.
abbrev pub records_start : Text
records_start = 44 ∷ (quoted (codes "records") ++ 58 ∷ 91 ∷ [])

-- The moment of a file, and the bytes after it.
unfoldable pub date_from : List ℕ → Option (ℤ × List ℕ)
date_from bytes = option_and_then moment_from (after_front date_start bytes)

-- The number after a prefix, and the bytes after the number.
abbrev pub number_after_front : List ℕ → List ℕ → Option (ℕ × List ℕ)
number_after_front front bytes = option_and_then number_from (after_front front bytes)

-- Whether a publication can have this number.
abbrev pub is_publication_number : ℕ → Bool
is_publication_number number = nat_le 1 number && nat_le number 1_000_000

-- The number of a publication after a prefix, and the bytes after the number.
unfoldable pub publication_after_front : List ℕ → List ℕ → Option (ℕ × List ℕ)
publication_after_front front bytes = option_and_then (λ read. if is_publication_number read.0 then Some read else None)
    (number_after_front front bytes)

-- The number of a publication in a member with this name, and the bytes after it.
abbrev pub publication_from : Text → List ℕ → Option (ℕ × List ℕ)
publication_from name bytes = publication_after_front (number_start name) bytes

-- The number of records in a file, and the bytes after the bracket that opens their array.
unfoldable pub count_from : List ℕ → Option (ℕ × List ℕ)
count_from bytes =
    option_and_then (λ read. option_map (λ rest. (read.0, rest)) (after_front records_start read.1))
    (number_after_front (number_start (codes "recordCount")) bytes)

-- ---- files

-- A copy: its head and its rows.
unfoldable pub copy_from : Sheet → List ℕ → Option (Head × List SheetRow)
copy_from sheet bytes =
    option_and_then (λ date.
    option_and_then (λ publication.
    option_and_then (λ count.
    option_map (λ rows. (record { moment = date.0; publication = publication.0; from = 0 }, rows))
    (items_from (record_from sheet) count.0 false count.1))
    (count_from publication.1))
    (publication_from (codes "publication") date.1))
    (date_from bytes)

-- A delta: its head and its changes.
unfoldable pub delta_from : Sheet → List ℕ → Option (Head × List Change)
delta_from sheet bytes =
    option_and_then (λ date.
    option_and_then (λ from.
    option_and_then (λ publication.
    option_and_then (λ count.
    option_map (λ changes. (record { moment = date.0; publication = publication.0; from = from.0 }, changes))
    (items_from (change_from sheet) count.0 false count.1))
    (count_from publication.1))
    (publication_from (codes "publication") from.1))
    (publication_from (codes "fromPublication") date.1))
    (date_from bytes)

-- A text was appended to the others.
pub record Added (old new : List Text) (text : Text) : Type 0 where
  pub is : new ≡ old ++ text ∷ []

-- A reader appends the text that is to be read, and returns what follows it.
abbrev pub AddsText : {X Y : Type 0} → (Text → X → Y) → List Text → List Text → Result X FormFault
    → Option Y → Type 0
AddsText view old new (Ok x) found = (text : Text) × (found ≡ Some (view text x)) × Added old new text
AddsText view old new (Err fault) found = JsonFails fault found

-- ---- what a reader promises

-- The bytes are the text of a copy with this head and these rows of a sheet. The keys needn't rise here.
pub record IsJsonCopy (sheet : Sheet) (bytes : List ℕ) (head : Head) (rows : List SheetRow) : Type 0 where
  pub text : bytes ≡ json_copy head rows
  pub begins : IsCopyHead head
  pub each : All (IsRowOfSheet sheet) rows

-- The bytes are the text of a delta with this head and these changes of a sheet. The keys needn't rise here.
pub record IsJsonDelta (sheet : Sheet) (bytes : List ℕ) (head : Head) (changes : List Change) : Type 0 where
  pub text : bytes ≡ json_delta head changes
  pub begins : IsDeltaHead head
  pub each : All (IsChangeOf sheet) changes
