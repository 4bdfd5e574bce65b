-- What the crate `csv` writes is a line as defined here, and its readers find the fields of each line.
use Rattle.std.proofs.Common.{◌≡◌, ℕ, zero, suc, ◌+◌, ◌-◌, ◌<◌, ◌≤◌, Bool, false, cond, inl, inr, Some, List, [], ◌∷◌, ◌++◌, length, take, drop, refl, sym, ap, ◌∙◌, arith, append_assoc, length-append}
use Rattle.std.specs.Borrow.{Bor}
use Rattle.std.specs.Prelude.{flat_map, map, ⊤}
use Rattle.std.specs.List.{All, slice_set}
use Rattle.std.proofs.lemmas.Bool.{ne_eqb}
use Rattle.std.proofs.lemmas.Bool.Decides.{eqb_tells}
use Rattle.std.proofs.lemmas.List.{append-nil, drop-take, drop_at, map-append, take_all, take_at, take_more, take_more_set}
use Rattle.std.proofs.lemmas.List.Elements.{All-cons, All-head, All-nil, All-tail}
use Rattle.csv.specs.Machine.{next_record}
use Rattle.csv.specs.Reading.{default_config, records_from, records_next, strip_bom}
use Rattle.csv.specs.Writing.{default_writer, escaped, is_blank, row_text, with_flexible, with_style}
use Rattle.csv.specs.Writing as written
use Rattle.csv.specs.declared.parser.State.TheVariants as st
use Rattle.csv.specs.declared.writer.QuoteStyle.{QuoteStyle}
use Rattle.csv.specs.declared.writer.WriterBuilder.{WriterBuilder}
use Rattle.csv.proofs.RoundTrip.{quoted-run}
use Rattle.lei_code.specs.Texts.{Text}
use Rattle.lei_records.specs.Rows.{text_at}
use Rattle.item_fields.specs.Sheets.{read_texts}
use Rattle.register_words.specs.declared.sheets.Sheet.{Sheet}
use Rattle.copy_csv.specs.declared.rows.Change.{Change}
use Rattle.copy_csv.specs.Csv.{after_comma, change_fields, csv_copy, csv_delta, csv_fields_text, csv_line, delta_names, field_byte, in_quotes, separator}
use Rattle.copy_csv.specs.Records.{all_quoted, records_read}
use Rattle.copy_csv.specs.Rows.{IsRowOfSheet}
use Rattle.copy_csv.specs.Sheets.{SheetRow, names_shown, shown_texts, width}
use Rattle.copy_csv.proofs.FileLemmas.{copy-is, delta-is}
use Rattle.copy_csv.proofs.LineLemmas.{comma-fields, csv_line-fields, length-names_shown, text_at-next}
use Rattle.copy_csv.proofs.WidthLemmas.{column_count-some, shown_texts-some}

-- ---- writing

-- with any quoting style, the quotes in a field are doubled
escaped-doubled : (style : QuoteStyle) (flexible : Bool) (x : Text)
    → escaped (with_flexible (with_style default_writer style) flexible) x ≡ flat_map field_byte x
unfolding escaped
escaped-doubled style flexible [] = refl
escaped-doubled style flexible (b ∷ x) = elim (eqb_tells b 34) [
  | inl is ↦
      ap (λ t. cond t (34 ∷ b ∷ escaped (with_flexible (with_style default_writer style) flexible) x) (b ∷ escaped (with_flexible (with_style default_writer style) flexible) x)) is.0
      ∙ (λ i. 34 ∷ is.1 i ∷ escaped-doubled style flexible x i)
      ∙ ap (λ t. cond t (34 ∷ 34 ∷ []) (b ∷ []) ++ flat_map field_byte x) (sym is.0)
  | inr is ↦
      ap (λ t. cond t (34 ∷ b ∷ escaped (with_flexible (with_style default_writer style) flexible) x) (b ∷ escaped (with_flexible (with_style default_writer style) flexible) x)) is.0
      ∙ ap (λ l. b ∷ l) (escaped-doubled style flexible x)
      ∙ ap (λ t. cond t (34 ∷ 34 ∷ []) (b ∷ []) ++ flat_map field_byte x) (sym is.0)
]

field-quoted : (x : Text) → written.quoted all_quoted x ≡ in_quotes x
field-quoted x = ap (λ l. 34 ∷ (l ++ 34 ∷ [])) (escaped-doubled _ _ x)

-- the fields after the first, and the end of the line
others-written : (xs : List Text) → written.fields_text all_quoted xs ++ 10 ∷ [] ≡ separator xs ∷ csv_line xs
unfolding written.fields_text
others-written [] = refl
others-written (x ∷ xs) =
    ap (λ l. 44 ∷ l) (append_assoc (written.quoted all_quoted x) (written.fields_text all_quoted xs) (10 ∷ [])
    ∙ (λ i. field-quoted x i ++ others-written xs i))

none-blank : (x : Text) (xs : List Text) → is_blank all_quoted (x ∷ xs) ≡ false
unfolding is_blank
none-blank x [] = ne_eqb (length (written.quoted all_quoted x)) 0 (λ z. cc z)
none-blank x (y ∷ xs) = refl

-- a record as it is written is the line of its fields
pub record-line : (fields : List Text) → 0 < length fields → row_text all_quoted fields ≡ csv_line fields
record-line [] some = absurd (omega arith)
record-line (x ∷ xs) some =
    ap (λ t. (written.quoted all_quoted x ++ written.fields_text all_quoted xs) ++ (cond t (34 ∷ 34 ∷ []) [] ++ 10 ∷ [])) (none-blank x xs)
    ∙ append_assoc (written.quoted all_quoted x) (written.fields_text all_quoted xs) (10 ∷ [])
    ∙ (λ i. field-quoted x i ++ others-written xs i)

-- ---- reading

-- a quote opens a field
opened-record : (rest : List ℕ) → next_record default_config st.StartRecord [] [] (34 ∷ rest) ≡ next_record default_config st.InQuoted [] [] rest
unfolding next_record
opened-record rest = refl

opened-field : (before : List Text) (rest : List ℕ)
    → next_record default_config st.StartField before [] (34 ∷ rest) ≡ next_record default_config st.InQuoted before [] rest
unfolding next_record
opened-field before rest = refl

-- a comma after the closing quote ends the field, and LF the record
closed-field : (before : List Text) (x : Text) (rest : List ℕ)
    → next_record default_config st.AfterQuote before x (44 ∷ rest) ≡ next_record default_config st.StartField (before ++ x ∷ []) [] rest
unfolding next_record
closed-field before x rest = refl

closed-record : (before : List Text) (x : Text) (rest : List ℕ)
    → next_record default_config st.AfterQuote before x (10 ∷ rest) ≡ Some (before ++ x ∷ [], st.StartRecord, rest)
unfolding next_record
closed-record before x rest = refl

-- a line starts with a quote
csv_line-opened : (x : Text) (xs : List Text) (rest : List ℕ)
    → csv_line (x ∷ xs) ++ rest ≡ 34 ∷ (flat_map field_byte x ++ 34 ∷ separator xs ∷ (csv_line xs ++ rest))
csv_line-opened x xs rest =
    ap (λ l. 34 ∷ l) (append_assoc (flat_map field_byte x ++ 34 ∷ []) (separator xs ∷ csv_line xs) rest
    ∙ append_assoc (flat_map field_byte x) (34 ∷ []) (separator xs ∷ (csv_line xs ++ rest)))

-- a field after its opening quote
field-read : (before : List Text) (x : Text) (rest : List ℕ)
    → next_record default_config st.InQuoted before [] (flat_map field_byte x ++ 34 ∷ rest) ≡ next_record default_config st.AfterQuote before x rest
field-read before x rest =
    ap (λ l. next_record default_config st.InQuoted before [] (l ++ 34 ∷ rest)) (sym (escaped-doubled _ _ x)) ∙ quoted-run before [] x rest

-- the fields of a line after its opening quote
fields-read : (before : List Text) (x : Text) (xs : List Text) (rest : List ℕ)
    → next_record default_config st.InQuoted before [] (flat_map field_byte x ++ 34 ∷ separator xs ∷ (csv_line xs ++ rest))
    ≡ Some (before ++ x ∷ xs, st.StartRecord, rest)
fields-read before x [] rest = field-read before x (10 ∷ rest) ∙ closed-record before x rest
fields-read before x (y ∷ ys) rest =
    field-read before x (44 ∷ (csv_line (y ∷ ys) ++ rest))
    ∙ closed-field before x (csv_line (y ∷ ys) ++ rest)
    ∙ ap (next_record default_config st.StartField (before ++ x ∷ []) []) (csv_line-opened y ys rest)
    ∙ opened-field (before ++ x ∷ []) (flat_map field_byte y ++ 34 ∷ separator ys ∷ (csv_line ys ++ rest))
    ∙ fields-read (before ++ x ∷ []) y ys rest
    ∙ ap (λ l. Some (l, st.StartRecord, rest)) (append_assoc before (x ∷ []) (y ∷ ys))

csv_line-read : (x : Text) (xs : List Text) (rest : List ℕ)
    → next_record default_config st.StartRecord [] [] (csv_line (x ∷ xs) ++ rest) ≡ Some (x ∷ xs, st.StartRecord, rest)
csv_line-read x xs rest =
    ap (next_record default_config st.StartRecord [] []) (csv_line-opened x xs rest)
    ∙ opened-record (flat_map field_byte x ++ 34 ∷ separator xs ∷ (csv_line xs ++ rest)) ∙ fields-read [] x xs rest

-- ---- lines

-- the first line of a text is its first record
first-read : (fields : List Text) (rest : List ℕ) (n : ℕ) → 0 < length fields
    → records_from default_config (suc n) st.StartRecord (csv_line fields ++ rest) ≡ fields ∷ records_from default_config n st.StartRecord rest
unfolding records_from
first-read [] rest n some = absurd (omega arith)
first-read (x ∷ xs) rest n some = ap (records_next (records_from default_config n)) (csv_line-read x xs rest)

-- each line of a text is a record
lines-read : {X : Type 0} (fields_of : X → List Text) (Good : X → Type 0) → ((x : X) → Good x → 0 < length (fields_of x))
    → (xs : List X) → All Good xs → (n : ℕ) → length xs < n
    → records_from default_config n st.StartRecord (flat_map (λ x. csv_line (fields_of x)) xs) ≡ map fields_of xs
unfolding records_from next_record
lines-read fields_of Good each xs all zero more = absurd (omega arith)
lines-read fields_of Good each [] all (suc n) more = refl
lines-read fields_of Good each (x ∷ xs) all (suc n) more =
    let others : length xs < n = omega arith in
    first-read (fields_of x) (flat_map (λ x. csv_line (fields_of x)) xs) n (each x (All-head Good x xs all))
    ∙ ap (λ l. fields_of x ∷ l) (lines-read fields_of Good each xs (All-tail Good x xs all) n others)

csv_line-long : (fields : List Text) → 0 < length fields → 0 < length (csv_line fields)
csv_line-long [] some = absurd (omega arith)
csv_line-long (x ∷ xs) some = let long : suc (length (drop 1 (csv_line (x ∷ xs)))) ≡ length (csv_line (x ∷ xs)) = refl in omega arith

-- a text has at least as many bytes as lines
rows-long : {X : Type 0} (fields_of : X → List Text) (Good : X → Type 0) → ((x : X) → Good x → 0 < length (fields_of x))
    → (xs : List X) → All Good xs → length xs < suc (length (flat_map (λ x. csv_line (fields_of x)) xs))
rows-long fields_of Good each [] all = omega arith
rows-long fields_of Good each (x ∷ xs) all =
    let one = csv_line-long (fields_of x) (each x (All-head Good x xs all)) in
    let others = rows-long fields_of Good each xs (All-tail Good x xs all) in
    let both = length-append (csv_line (fields_of x)) (flat_map (λ x. csv_line (fields_of x)) xs) in
    omega arith

-- a text that starts with a quote doesn't start with a byte order mark
unmarked : (rest : List ℕ) → strip_bom (34 ∷ rest) ≡ 34 ∷ rest
unfolding strip_bom
unmarked [] = refl
unmarked (a ∷ []) = refl
unmarked (a ∷ b ∷ rest) = refl

csv_line-unmarked : (fields : List Text) (rest : List ℕ) → 0 < length fields → strip_bom (csv_line fields ++ rest) ≡ csv_line fields ++ rest
csv_line-unmarked [] rest some = absurd (omega arith)
csv_line-unmarked (x ∷ xs) rest some =
    ap strip_bom (csv_line-opened x xs rest) ∙ unmarked (flat_map field_byte x ++ 34 ∷ separator xs ∷ (csv_line xs ++ rest)) ∙ sym (csv_line-opened x xs rest)

-- the records of a file: its names, and then the fields of each line after them
file-read : {X : Type 0} (fields_of : X → List Text) (Good : X → Type 0) → ((x : X) → Good x → 0 < length (fields_of x))
    → (names : List Text) → 0 < length names → (xs : List X) → All Good xs
    → records_read (csv_line names ++ flat_map (λ x. csv_line (fields_of x)) xs) ≡ names ∷ map fields_of xs
file-read fields_of Good each names some xs all =
    let lines : List ℕ = flat_map (λ x. csv_line (fields_of x)) xs in
    let n : ℕ = length (csv_line names ++ lines) in
    let one = csv_line-long names some in
    let others = rows-long fields_of Good each xs all in
    let both = length-append (csv_line names) lines in
    let fuel : length xs < n = omega arith in
    let next : n + 1 ≡ suc n = omega arith in
    (λ i. records_from default_config (length (csv_line-unmarked names lines some i) + 1) st.StartRecord (csv_line-unmarked names lines some i))
    ∙ ap (λ m. records_from default_config m st.StartRecord (csv_line names ++ lines)) next
    ∙ first-read names lines n some
    ∙ ap (λ l. names ∷ l) (lines-read fields_of Good each xs all n fuel)

pub csv_line-records : (fields : List Text) → 0 < length fields → records_read (csv_line fields) ≡ fields ∷ []
csv_line-records fields some = ap records_read (sym (append-nil (csv_line fields))) ∙ file-read (λ l. l) (λ l. 0 < length l) (λ l is. is) fields some [] (All-nil _)

names-some : (wide : Bool) (sheet : Sheet) → 0 < length (names_shown wide sheet)
names-some wide sheet = let long = length-names_shown wide sheet in let some = column_count-some wide sheet in omega arith

pub copy-records : (sheet : Sheet) (wide : Bool) (rows : List SheetRow) → All (IsRowOfSheet sheet) rows
    → records_read (csv_copy sheet wide rows) ≡ names_shown wide sheet ∷ map (shown_texts wide) rows
copy-records sheet wide rows are =
    ap records_read (copy-is sheet wide rows)
    ∙ file-read (shown_texts wide) (IsRowOfSheet sheet) (shown_texts-some sheet wide) (names_shown wide sheet) (names-some wide sheet) rows are

change-some : (wide : Bool) (change : Change) → 0 < length (change_fields wide change)
change-some wide (Change.Put row) = omega arith
change-some wide (Change.Drop row) = omega arith

abbrev Anything : Change → Type 0
Anything change = ⊤

all-changes : (changes : List Change) → All Anything changes
all-changes [] = All-nil Anything
all-changes (change ∷ changes) = All-cons Anything change changes tt (all-changes changes)

pub delta-records : (sheet : Sheet) (wide : Bool) (changes : List Change)
    → records_read (csv_delta sheet wide changes) ≡ delta_names wide sheet ∷ map (change_fields wide) changes
delta-records sheet wide changes =
    ap records_read (delta-is sheet wide changes)
    ∙ file-read (change_fields wide) Anything (λ change is. change-some wide change) (delta_names wide sheet) (omega arith) changes (all-changes changes)

-- ---- borrowed texts

-- the first texts of a list, and those after them
pub lent-front : (n : ℕ) (texts : List (Bor Text)) → read_texts (take n texts) ≡ take n (read_texts texts)
lent-front zero texts = refl
lent-front (suc n) [] = refl
lent-front (suc n) (text ∷ texts) = ap (λ l. text.now ∷ l) (lent-front n texts)

pub lent-back : (n : ℕ) (texts : List (Bor Text)) → read_texts (drop n texts) ≡ drop n (read_texts texts)
lent-back zero texts = refl
lent-back (suc n) [] = refl
lent-back (suc n) (text ∷ texts) = lent-back n texts

pub lent-some : (texts : List (Bor Text)) → 0 < length texts → 0 < length (read_texts texts)
lent-some [] some = absurd (omega arith)
lent-some (text ∷ texts) some = omega arith

-- one more text is borrowed
pub lent-step : (lent : List (Bor Text)) (texts : List Text) (i : ℕ) (text : Bor Text) → i < length lent → i < length texts
    → text.now ≡ text_at texts (i + 1) → read_texts (take i lent) ≡ take i texts
    → read_texts (take (i + 1) (slice_set lent i text)) ≡ take (i + 1) texts
lent-step lent texts i text room within is before =
    ap read_texts (take_more_set lent i text room)
    ∙ map-append (λ (text : Bor Text). text.now) (take i lent) (text ∷ [])
    ∙ (λ j. before j ++ (is ∙ text_at-next texts i) j ∷ [])
    ∙ sym (take_more texts i [] within)

pub lent-all : (lent : List (Bor Text)) (texts : List Text) (i : ℕ) → i ≡ length texts → read_texts (take i lent) ≡ take i texts
    → read_texts (take (length texts) lent) ≡ texts
lent-all lent texts i all is = ap (λ n. read_texts (take n lent)) (sym all) ∙ is ∙ take_all i texts (omega arith)

-- the first of the borrowed texts are the first texts
pub lent-part : (lent : List (Bor Text)) (texts : List Text) (n : ℕ) → n ≤ length texts → read_texts (take (length texts) lent) ≡ texts
    → read_texts (take n lent) ≡ take n texts
lent-part lent texts n within all =
    ap read_texts (sym (take-within n (length texts) lent within)) ∙ lent-front n (take (length texts) lent) ∙ ap (take n) all
  where
    take-within : (n m : ℕ) (xs : List (Bor Text)) → n ≤ m → take n (take m xs) ≡ take n xs
    take-within zero m xs within = refl
    take-within (suc n) zero xs within = absurd (omega arith)
    take-within (suc n) (suc m) [] within = refl
    take-within (suc n) (suc m) (x ∷ xs) within = ap (λ l. x ∷ l) (take-within n m xs (omega arith))

-- and the same for those after a place
pub lent-rest : (lent : List (Bor Text)) (texts : List Text) (n full : ℕ) → full ≡ length texts → n < full
    → read_texts (take (length texts) lent) ≡ texts → read_texts (take (full - n) (drop n lent)) ≡ drop n texts
lent-rest lent texts n full all some is =
    let whole : n + (full - n) ≡ length texts = omega arith in
    ap read_texts (sym (drop-take n (full - n) lent)) ∙ lent-back n (take (n + (full - n)) lent)
    ∙ ap (λ m. drop n (read_texts (take m lent))) whole ∙ ap (drop n) is

-- ---- appending

-- a writer appends a line
pub csv_line-put : (cfg : WriterBuilder) (out inner pending after : List ℕ) (fields : List Text) → 0 < length fields → cfg ≡ all_quoted
    → inner ≡ out → pending ≡ [] → after ≡ (inner ++ pending) ++ row_text cfg fields → after ≡ out ++ csv_line fields
csv_line-put cfg out inner pending after fields some cfg_is inner_is none put =
    put ∙ (λ i. (inner_is i ++ none i) ++ row_text (cfg_is i) fields) ∙ (λ i. append-nil out i ++ record-line fields some i)

-- what is under a writer's buffer after nothing is pending
pub flushed : (under pending before all : List ℕ) → under ++ pending ≡ before → pending ≡ [] → before ≡ all → under ≡ all
flushed under pending before all same none is =
    sym (append-nil under) ∙ ap (λ l. under ++ l) (sym none) ∙ same ∙ is

pub csv_line-nonempty : (bytes : List ℕ) (fields : List Text) (n : ℕ) → 0 < length fields → n ≡ length bytes → bytes ≡ csv_line fields → 1 ≤ n
csv_line-nonempty bytes fields n some long is = let one = csv_line-long fields some in let same = ap length is in omega arith

-- without its last byte, a line is its fields
pub csv_line-open : (line_bytes : List ℕ) (fields : List Text) (n : ℕ) → 0 < length fields → n ≡ length line_bytes → line_bytes ≡ csv_line fields
    → take (n - 1) line_bytes ≡ csv_fields_text fields
csv_line-open bytes fields n some long is =
    let ends : bytes ≡ csv_fields_text fields ++ 10 ∷ [] = is ∙ sym (csv_line-fields fields some) in
    let both : length bytes ≡ length (csv_fields_text fields) + 1 = ap length ends ∙ length-append (csv_fields_text fields) (10 ∷ []) in
    let last : length (csv_fields_text fields) ≡ n - 1 = omega arith in
    ap (take (n - 1)) ends ∙ take_at (csv_fields_text fields) (10 ∷ []) (n - 1) last

-- so is the first of two lines, up to the byte before the start of the second, and so is the second, after that
pub lines-front : (bytes : List ℕ) (fields others : List Text) (n : ℕ) → 0 < length fields → bytes ≡ csv_line fields ++ csv_line others
    → n ≡ length (csv_line fields) → take (n - 1) bytes ≡ csv_fields_text fields
lines-front bytes fields others n some is long =
    let ends : bytes ≡ csv_fields_text fields ++ (10 ∷ csv_line others) =
    is ∙ ap (λ l. l ++ csv_line others) (sym (csv_line-fields fields some)) ∙ append_assoc (csv_fields_text fields) (10 ∷ []) (csv_line others) in
    let both : length (csv_line fields) ≡ length (csv_fields_text fields) + 1 =
    ap length (sym (csv_line-fields fields some)) ∙ length-append (csv_fields_text fields) (10 ∷ []) in
    let last : length (csv_fields_text fields) ≡ n - 1 = omega arith in
    ap (take (n - 1)) ends ∙ take_at (csv_fields_text fields) (10 ∷ csv_line others) (n - 1) last

pub lines-back : (bytes : List ℕ) (fields others : List Text) (n end : ℕ) → 0 < length others → bytes ≡ csv_line fields ++ csv_line others
    → n ≡ length (csv_line fields) → end ≡ length bytes → take (end - 1 - n) (drop n bytes) ≡ csv_fields_text others
lines-back bytes fields others n end some is long whole =
    let both : length bytes ≡ length (csv_line fields) + length (csv_line others) = ap length is ∙ length-append (csv_line fields) (csv_line others) in
    let left : end - 1 - n ≡ length (csv_line others) - 1 = omega arith in
    ap (take (end - 1 - n)) (ap (drop n) is ∙ drop_at (csv_line fields) (csv_line others) n (sym long))
    ∙ ap (λ m. take m (csv_line others)) left ∙ csv_line-open (csv_line others) others (length (csv_line others)) some refl refl

-- two lines, and the offset at which the second starts
pub record TwoLines (bytes : List ℕ) (fields others : List Text) (n : ℕ) : Type 0 where
  pub lines : bytes ≡ csv_line fields ++ csv_line others
  pub begins : n ≡ length (csv_line fields)
  pub first : 1 ≤ n
  pub within : n < length bytes

pub two-lines : (out bytes : List ℕ) (fields others : List Text) (n : ℕ) → 0 < length fields → 0 < length others → out ≡ []
    → bytes ≡ (out ++ csv_line fields) ++ csv_line others → n ≡ length (out ++ csv_line fields) → TwoLines bytes fields others n
two-lines out bytes fields others n some more none put long =
    let is : bytes ≡ csv_line fields ++ csv_line others = put ∙ ap (λ l. (l ++ csv_line fields) ++ csv_line others) none in
    let begins : n ≡ length (csv_line fields) = long ∙ ap (λ l. length (l ++ csv_line fields)) none in
    let both : length bytes ≡ length (csv_line fields) + length (csv_line others) = ap length is ∙ length-append (csv_line fields) (csv_line others) in
    let one = csv_line-long fields some in
    let two = csv_line-long others more in
    record { lines = is; begins = begins; first = omega arith; within = omega arith }

-- a comma, and the further fields
pub further-put : (out next after : List ℕ) (fields : List Text) → 0 < length fields → out ≡ [] → next ≡ out ++ 44 ∷ []
    → after ≡ next ++ csv_fields_text fields → after ≡ flat_map after_comma fields
further-put out next after fields some none comma put =
    put ∙ ap (λ l. l ++ csv_fields_text fields) (comma ∙ ap (λ l. l ++ 44 ∷ []) none) ∙ comma-fields fields some

-- a row of any sheet has at most 32 texts
pub width-most : (sheet : Sheet) → width sheet ≤ 32
width-most Sheet.Lei = omega arith
width-most Sheet.Rr = omega arith
width-most Sheet.Repex = omega arith
