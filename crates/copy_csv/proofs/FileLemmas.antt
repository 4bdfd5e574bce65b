-- Whole files: the head that gives the width, and the lines after it.
use Rattle.std.proofs.Common.{◌≡◌, ◌≢◌, ℕ, ◌+◌, ◌<◌, ◌==◌, Bool, true, false, Option, None, Some, List, [], ◌∷◌, ◌++◌, length, take, drop, refl, sym, ap, subst, ◌∙◌, arith, zero-add}
use Rattle.std.specs.Prelude.{Err, codes, flat_map, IsErrOf, IsTrue}
use Rattle.std.specs.Cmp.Lexicographic.{pointwise}
use Rattle.std.specs.List.{All}
use Rattle.std.proofs.Math.Seq.{take-append_seam}
use Rattle.std.proofs.lemmas.Bool.{false≢true}
use Rattle.std.proofs.lemmas.List.{append_cancel_left, take-append-drop}
use Rattle.std.proofs.lemmas.List.Elements.{All-cons, All-head, All-nil, All-tail}
use Rattle.std.proofs.lemmas.Slice.Eq.{bytes_eq-Decides}
use Rattle.lei_code.specs.Texts.{Text}
use Rattle.register_words.specs.declared.sheets.Sheet.{Sheet}
use Rattle.copy_csv.specs.declared.faults.FormFault.{FormFault}
use Rattle.copy_csv.specs.declared.rows.Change.{Change}
use Rattle.copy_csv.specs.Csv.{IsCsvCopy, IsCsvDelta, change_line, csv_copy, csv_delta, csv_line, delta_names, in_quotes, row_line, separator}
use Rattle.copy_csv.specs.CsvReading.{line_from, separator_of}
use Rattle.copy_csv.specs.Rows.{IsChangeIn, IsChangeOf, IsRowIn, IsRowOfSheet, changed_key, changed_row}
use Rattle.copy_csv.specs.Sheets.{SheetRow, column_count, column_names, fits, has_widths, key, names_shown, shown_texts}
use Rattle.copy_csv.specs.Taking.{AreReadFrom, FindsBehind, FindsLines, HasLines}
use Rattle.copy_csv.proofs.CsvLemmas.{csv_line-longer, line_again, separator-of}
use Rattle.copy_csv.proofs.LineLemmas.{Read, change-one_way, change-some, length-names_shown, row-one_way, row-some, some≢none, utf8-all, utf8-change, utf8-row}
use Rattle.copy_csv.proofs.RowLemmas.{one_list}
use Rattle.copy_csv.proofs.WidthLemmas.{column_count-one}

-- ---- heads

pub lines-differ : (xs ys : List Text) (a b : List ℕ) → 0 < length xs → length xs < length ys → csv_line xs ++ a ≢ csv_line ys ++ b
lines-differ xs ys a b some more e =
    let read : Read = (xs, a) in
    some≢none read (sym (line_again xs a) ∙ ap (line_from (length xs)) e ∙ csv_line-longer (length xs) ys b some more)

-- the names at the head of a file of each width: one for each column, and the same number of extra ones in each file
pub record AreNames (names : Bool → Sheet → List Text) : Type 0 where
  pub extra : ℕ
  pub long : (wide : Bool) (sheet : Sheet) → length (names wide sheet) ≡ extra + column_count wide sheet
  pub one : (sheet : Sheet) → has_widths sheet ≡ false → names true sheet ≡ names false sheet

pub copy_names : AreNames names_shown
copy_names = record { extra = 0; long = λ wide sheet. length-names_shown wide sheet ∙ sym (zero-add (column_count wide sheet)); one = same }
  where
    same : (sheet : Sheet) → has_widths sheet ≡ false → names_shown true sheet ≡ names_shown false sheet
    same sheet one = ap (λ n. take n (column_names sheet)) (column_count-one sheet true one ∙ sym (column_count-one sheet false one))

pub delta_names_are : AreNames delta_names
delta_names_are = record {
  extra = 1;
  long = λ wide sheet. let shown = length-names_shown wide sheet in omega arith;
  one = λ sheet one. ap (λ l. codes "Delta.Action" ∷ l) (copy_names.one sheet one);
}

-- the heads of the two widths differ if the sheet has two
heads-differ : (names : Bool → Sheet → List Text) → AreNames names → (sheet : Sheet) → has_widths sheet ≡ true → (a b : List ℕ)
    → csv_line (names false sheet) ++ a ≢ csv_line (names true sheet) ++ b
heads-differ names are Sheet.Lei two a b e =
    let narrow : length (names false Sheet.Lei) ≡ are.extra + 28 = are.long false Sheet.Lei in
    let wide : length (names true Sheet.Lei) ≡ are.extra + 32 = are.long true Sheet.Lei in
    lines-differ (names false Sheet.Lei) (names true Sheet.Lei) a b (omega arith) (omega arith) e
heads-differ names are Sheet.Rr two a b e = absurd (false≢true two)
heads-differ names are Sheet.Repex two a b e = absurd (false≢true two)

-- so a head determines the width
pub one_width : (names : Bool → Sheet → List Text) → AreNames names → (sheet : Sheet) (wide other : Bool) (a b : List ℕ)
    → (wide ≡ true → has_widths sheet ≡ true) → (other ≡ true → has_widths sheet ≡ true)
    → csv_line (names wide sheet) ++ a ≡ csv_line (names other sheet) ++ b → wide ≡ other
one_width names are sheet true true a b two too e = refl
one_width names are sheet false false a b two too e = refl
one_width names are sheet true false a b two too e = absurd (heads-differ names are sheet (two refl) b a (sym e))
one_width names are sheet false true a b two too e = absurd (heads-differ names are sheet (too refl) a b e)

-- if no lines follow either head, none follow the head of any width
lines-none : (names : Bool → Sheet → List Text) → AreNames names → (sheet : Sheet) (bytes narrow wide : List ℕ)
    → narrow ≡ csv_line (names false sheet) → wide ≡ csv_line (names true sheet) → FindsBehind narrow wide bytes None
    → (width : Bool) (lines : List ℕ) → HasLines names sheet bytes width lines → ⊥
lines-none names are sheet bytes narrow wide narrow_is wide_is none false lines has =
    none.0 lines has.utf8 (has.whole ∙ ap (λ l. l ++ lines) (sym narrow_is))
lines-none names are sheet bytes narrow wide narrow_is wide_is none true lines has =
    none.1 lines has.utf8
    (λ others e. heads-differ names are sheet (has.wide_is refl) others lines
    (ap (λ l. l ++ others) (sym narrow_is) ∙ sym e ∙ has.whole)) (has.whole ∙ ap (λ l. l ++ lines) (sym wide_is))

-- what was found after one of two heads
pub lines-found : (names : Bool → Sheet → List Text) → AreNames names → (sheet : Sheet) (bytes narrow wide : List ℕ)
    → narrow ≡ csv_line (names false sheet) → wide ≡ csv_line (names true sheet) → (found : Option (Bool × List ℕ))
    → FindsBehind narrow wide bytes found → FindsLines names sheet bytes found
lines-found names are sheet bytes narrow wide narrow_is wide_is (Some (true, rest)) found = record {
  whole = found.0 ∙ ap (λ l. l ++ rest) wide_is;
  wide_is = λ e. by (has_widths sheet) refl;
  utf8 = found.1;
}
  where
    by : (b : Bool) → has_widths sheet ≡ b → has_widths sheet ≡ true
    by true e = e
    by false e = absurd (found.2 rest (found.0 ∙ ap (λ l. l ++ rest) (wide_is ∙ ap csv_line (are.one sheet e) ∙ sym narrow_is)))
lines-found names are sheet bytes narrow wide narrow_is wide_is (Some (false, rest)) found = record {
  whole = found.0 ∙ ap (λ l. l ++ rest) narrow_is;
  wide_is = λ e. absurd (false≢true e);
  utf8 = found.1;
}
lines-found names are sheet bytes narrow wide narrow_is wide_is None found =
    lines-none names are sheet bytes narrow wide narrow_is wide_is found

comma : (wide : Bool) (sheet : Sheet) → separator (names_shown wide sheet) ≡ 44
comma wide sheet = separator-of (names_shown wide sheet) ∙ ap separator_of (length-names_shown wide sheet) ∙ is wide sheet
  where
    is : (wide : Bool) (sheet : Sheet) → separator_of (column_count wide sheet) ≡ 44
    is true Sheet.Lei = refl
    is false Sheet.Lei = refl
    is wide Sheet.Rr = refl
    is wide Sheet.Repex = refl

pub delta-head : (wide : Bool) (sheet : Sheet) (out next after : List ℕ) → out ≡ [] → next ≡ out ++ codes "\"Delta.Action\","
    → after ≡ next ++ csv_line (names_shown wide sheet) → after ≡ csv_line (delta_names wide sheet)
delta-head wide sheet out next after none one two =
    two ∙ ap (λ l. l ++ csv_line (names_shown wide sheet)) (one ∙ ap (λ l. l ++ codes "\"Delta.Action\",") none)
    ∙ ap (λ b. in_quotes (codes "Delta.Action") ++ (b ∷ csv_line (names_shown wide sheet))) (sym (comma wide sheet))

-- ---- whole files

pub copy-is : (sheet : Sheet) (wide : Bool) (rows : List SheetRow)
    → csv_copy sheet wide rows ≡ csv_line (names_shown wide sheet) ++ flat_map (row_line wide) rows
unfolding csv_copy
copy-is sheet wide rows = refl

pub delta-is : (sheet : Sheet) (wide : Bool) (changes : List Change)
    → csv_delta sheet wide changes ≡ csv_line (delta_names wide sheet) ++ flat_map (change_line wide) changes
unfolding csv_delta
delta-is sheet wide changes = refl

-- two facts about each item make one
both-all : {X : Type 0} (P Q : X → Type 0) (xs : List X) → All P xs → All Q xs → All (λ x. P x × Q x) xs
both-all P Q [] p q = All-nil (λ x. P x × Q x)
both-all P Q (x ∷ xs) p q = All-cons (λ x. P x × Q x) x xs (All-head P x xs p, All-head Q x xs q)
    (both-all P Q xs (All-tail P x xs p) (All-tail Q x xs q))

first-all : {X : Type 0} (P Q : X → Type 0) (xs : List X) → All (λ x. P x × Q x) xs → All P xs
first-all P Q [] all = All-nil P
first-all P Q (x ∷ xs) all = let here = All-head (λ x. P x × Q x) x xs all in
    All-cons P x xs here.0 (first-all P Q xs (All-tail (λ x. P x × Q x) x xs all))

second-all : {X : Type 0} (P Q : X → Type 0) (xs : List X) → All (λ x. P x × Q x) xs → All Q xs
second-all P Q [] all = All-nil Q
second-all P Q (x ∷ xs) all = let here = All-head (λ x. P x × Q x) x xs all in
    All-cons Q x xs here.1 (second-all P Q xs (All-tail (λ x. P x × Q x) x xs all))

-- bytes that start with one of two prefixes
pub behind-head : (head bytes rest more : List ℕ) → bytes ≡ head ++ rest → bytes ≡ head ++ more → rest ≡ more
behind-head head bytes rest more is other = append_cancel_left head rest more (sym is ∙ other)

pub begins : (head bytes rest : List ℕ) → pointwise ◌==◌ (take (length head) bytes) head ≡ true → rest ≡ drop (length head) bytes
    → bytes ≡ head ++ rest
begins head bytes rest test is =
    let same : take (length head) bytes ≡ head = (bytes_eq-Decides (take (length head) bytes) head).0 test in
    sym (take-append-drop (length head) bytes) ∙ (λ i. same i ++ sym is i)

pub begins-not : (head bytes rest : List ℕ) → pointwise ◌==◌ (take (length head) bytes) head ≡ false → bytes ≢ head ++ rest
begins-not head bytes rest test is =
    let same : take (length head) bytes ≡ head = ap (take (length head)) is ∙ take-append_seam head rest in
    false≢true (sym test ∙ (bytes_eq-Decides (take (length head) bytes) head).1 same)

-- a copy is its head, followed by the lines of its rows
row_lines : (sheet : Sheet) (bytes : List ℕ) (wide : Bool) (rows : List SheetRow) → IsCsvCopy sheet bytes wide rows
    → HasLines names_shown sheet bytes wide (flat_map (row_line wide) rows)
row_lines sheet bytes wide rows is = record {
  whole = is.text ∙ copy-is sheet wide rows;
  wide_is = is.wide_is;
  utf8 = utf8-all (row_line wide) (IsRowOfSheet sheet) (utf8-row sheet wide) rows is.rows_are.each;
}

pub copy-none : (sheet : Sheet) (bytes : List ℕ) → FindsLines names_shown sheet bytes None → (wide : Bool) (rows : List SheetRow)
    → IsCsvCopy sheet bytes wide rows → ⊥
copy-none sheet bytes none wide rows is = none wide (flat_map (row_line wide) rows) (row_lines sheet bytes wide rows is)

-- if its lines aren't those of any rows, the bytes aren't a copy
pub copy-others : (sheet : Sheet) (bytes : List ℕ) (wide : Bool) (lines : List ℕ) → HasLines names_shown sheet bytes wide lines
    → ((rows : List SheetRow) → AreReadFrom (row_line wide) (IsRowIn sheet wide) key lines rows → ⊥)
    → (other : Bool) (rows : List SheetRow) → IsCsvCopy sheet bytes other rows → ⊥
copy-others sheet bytes wide lines has never other rows is =
    let lines_are : HasLines names_shown sheet bytes other (flat_map (row_line other) rows) = row_lines sheet bytes other rows is in
    let same : other ≡ wide = one_width names_shown copy_names sheet other wide (flat_map (row_line other) rows) lines is.wide_is has.wide_is
    (sym lines_are.whole ∙ has.whole) in
    let F : Bool → Type 0 = λ w. IsCsvCopy sheet bytes w rows in
    let here : IsCsvCopy sheet bytes wide rows = subst F same is in
    never rows (record {
      printed = behind-head (csv_line (names_shown wide sheet)) bytes lines (flat_map (row_line wide) rows) has.whole (here.text ∙ copy-is sheet wide rows);
      good = both-all (IsRowOfSheet sheet) (λ row. IsTrue (fits wide row)) rows here.rows_are.each here.fit;
      rising = here.rows_are.rising;
    })

pub copy-found : (sheet : Sheet) (bytes : List ℕ) (wide : Bool) (lines : List ℕ) → HasLines names_shown sheet bytes wide lines
    → (rows : List SheetRow) → AreReadFrom (row_line wide) (IsRowIn sheet wide) key lines rows → IsCsvCopy sheet bytes wide rows
copy-found sheet bytes wide lines has rows are = record {
  text = has.whole ∙ ap (λ l. csv_line (names_shown wide sheet) ++ l) are.printed ∙ sym (copy-is sheet wide rows);
  wide_is = has.wide_is;
  rows_are = record { each = first-all (IsRowOfSheet sheet) (λ row. IsTrue (fits wide row)) rows are.good; rising = are.rising };
  fit = second-all (IsRowOfSheet sheet) (λ row. IsTrue (fits wide row)) rows are.good;
}

-- the same for a delta
change_lines : (sheet : Sheet) (bytes : List ℕ) (wide : Bool) (changes : List Change) → IsCsvDelta sheet bytes wide changes
    → HasLines delta_names sheet bytes wide (flat_map (change_line wide) changes)
change_lines sheet bytes wide changes is = record {
  whole = is.text ∙ delta-is sheet wide changes;
  wide_is = is.wide_is;
  utf8 = utf8-all (change_line wide) (IsChangeOf sheet) (utf8-change sheet wide) changes is.changes_are.each;
}

pub delta-none : (sheet : Sheet) (bytes : List ℕ) → FindsLines delta_names sheet bytes None → (wide : Bool) (changes : List Change)
    → IsCsvDelta sheet bytes wide changes → ⊥
delta-none sheet bytes none wide changes is = none wide (flat_map (change_line wide) changes) (change_lines sheet bytes wide changes is)

pub delta-others : (sheet : Sheet) (bytes : List ℕ) (wide : Bool) (lines : List ℕ) → HasLines delta_names sheet bytes wide lines
    → ((changes : List Change) → AreReadFrom (change_line wide) (IsChangeIn sheet wide) changed_key lines changes → ⊥)
    → (other : Bool) (changes : List Change) → IsCsvDelta sheet bytes other changes → ⊥
delta-others sheet bytes wide lines has never other changes is =
    let lines_are : HasLines delta_names sheet bytes other (flat_map (change_line other) changes) = change_lines sheet bytes other changes is in
    let same : other ≡ wide = one_width delta_names delta_names_are sheet other wide (flat_map (change_line other) changes) lines is.wide_is has.wide_is
    (sym lines_are.whole ∙ has.whole) in
    let F : Bool → Type 0 = λ w. IsCsvDelta sheet bytes w changes in
    let here : IsCsvDelta sheet bytes wide changes = subst F same is in
    never changes (record {
      printed = behind-head (csv_line (delta_names wide sheet)) bytes lines (flat_map (change_line wide) changes) has.whole (here.text ∙ delta-is sheet wide changes);
      good = both-all (IsChangeOf sheet) (λ change. IsTrue (fits wide (changed_row change))) changes here.changes_are.each here.fit;
      rising = here.changes_are.rising;
    })

pub delta-found : (sheet : Sheet) (bytes : List ℕ) (wide : Bool) (lines : List ℕ) → HasLines delta_names sheet bytes wide lines
    → (changes : List Change) → AreReadFrom (change_line wide) (IsChangeIn sheet wide) changed_key lines changes → IsCsvDelta sheet bytes wide changes
delta-found sheet bytes wide lines has changes are = record {
  text = has.whole ∙ ap (λ l. csv_line (delta_names wide sheet) ++ l) are.printed ∙ sym (delta-is sheet wide changes);
  wide_is = has.wide_is;
  changes_are = record { each = first-all (IsChangeOf sheet) (λ change. IsTrue (fits wide (changed_row change))) changes are.good; rising = are.rising };
  fit = second-all (IsChangeOf sheet) (λ change. IsTrue (fits wide (changed_row change))) changes are.good;
}

-- ---- a sheet with one width

-- files with the same number of columns have the same texts of a row
one-line : (sheet : Sheet) (wide other : Bool) → column_count wide sheet ≡ column_count other sheet → (row : SheetRow) → IsRowOfSheet sheet row
    → shown_texts wide row ≡ shown_texts other row
one-line sheet wide other same row is =
    ap (λ n. take n row.texts) (ap (column_count wide) is.1 ∙ same ∙ sym (ap (column_count other) is.1))

one-lines : {X : Type 0} (print other : X → List ℕ) (Good : X → Type 0) → ((x : X) → Good x → print x ≡ other x) → (xs : List X) → All Good xs
    → flat_map print xs ≡ flat_map other xs
one-lines print other Good each [] all = refl
one-lines print other Good each (x ∷ xs) all = λ i. each x (All-head Good x xs all) i
    ++ one-lines print other Good each xs (All-tail Good x xs all) i

pub copy-one_width : (sheet : Sheet) (wide other : Bool) → column_count wide sheet ≡ column_count other sheet → (rows : List SheetRow)
    → All (IsRowOfSheet sheet) rows → csv_copy sheet wide rows ≡ csv_copy sheet other rows
copy-one_width sheet wide other same rows all =
    copy-is sheet wide rows
    ∙ ap (λ n. csv_line (take n (column_names sheet)) ++ flat_map (row_line wide) rows) same
    ∙ ap (λ l. csv_line (names_shown other sheet) ++ l)
    (one-lines (row_line wide) (row_line other) (IsRowOfSheet sheet) (λ row is. ap csv_line (one-line sheet wide other same row is)) rows all)
    ∙ sym (copy-is sheet other rows)

one-change : (sheet : Sheet) (wide other : Bool) → column_count wide sheet ≡ column_count other sheet → (change : Change) → IsChangeOf sheet change
    → change_line wide change ≡ change_line other change
one-change sheet wide other same (Change.Put row) is = ap (λ l. csv_line (codes "PUT" ∷ l)) (one-line sheet wide other same row is.0)
one-change sheet wide other same (Change.Drop row) is = ap (λ l. csv_line (codes "DROP" ∷ l)) (one-line sheet wide other same row is.0)

pub delta-one_width : (sheet : Sheet) (wide other : Bool) → column_count wide sheet ≡ column_count other sheet → (changes : List Change)
    → All (IsChangeOf sheet) changes → csv_delta sheet wide changes ≡ csv_delta sheet other changes
delta-one_width sheet wide other same changes all =
    delta-is sheet wide changes
    ∙ ap (λ n. csv_line (codes "Delta.Action" ∷ take n (column_names sheet)) ++ flat_map (change_line wide) changes) same
    ∙ ap (λ l. csv_line (delta_names other sheet) ++ l)
    (one-lines (change_line wide) (change_line other) (IsChangeOf sheet) (one-change sheet wide other same) changes all)
    ∙ sym (delta-is sheet other changes)

-- a fault is the same for each type of result
pub same-fault : {T U : Type 0} (fault : FormFault) → IsErrOf {T = T} (Err fault) FormFault.NotRead
    → IsErrOf {T = U} (Err fault) FormFault.NotRead
same-fault FormFault.NotRead err = refl
same-fault FormFault.NoMemory err = cc

-- ---- two lists have different texts

pub one_copy : (sheet : Sheet) (bytes : List ℕ) (wide other : Bool) (rows others : List SheetRow) → IsCsvCopy sheet bytes wide rows
    → IsCsvCopy sheet bytes other others → (wide ≡ other) × (rows ≡ others)
one_copy sheet bytes wide other rows others is also =
    let lines : HasLines names_shown sheet bytes wide (flat_map (row_line wide) rows) = row_lines sheet bytes wide rows is in
    let more : HasLines names_shown sheet bytes other (flat_map (row_line other) others) = row_lines sheet bytes other others also in
    let same : other ≡ wide = one_width names_shown copy_names sheet other wide (flat_map (row_line other) others) (flat_map (row_line wide) rows)
    also.wide_is is.wide_is (sym more.whole ∙ lines.whole) in
    let F : Bool → Type 0 = λ w. IsCsvCopy sheet bytes w others in
    let here : IsCsvCopy sheet bytes wide others = subst F same also in (
      sym same,
      one_list (row_line wide) (IsRowIn sheet wide) key (row-one_way sheet wide) (row-some sheet wide) rows others
          (both-all (IsRowOfSheet sheet) (λ row. IsTrue (fits wide row)) rows is.rows_are.each is.fit)
          (both-all (IsRowOfSheet sheet) (λ row. IsTrue (fits wide row)) others here.rows_are.each here.fit)
          (behind-head (csv_line (names_shown wide sheet)) bytes (flat_map (row_line wide) rows) (flat_map (row_line wide) others) lines.whole
          (here.text ∙ copy-is sheet wide others)),
    )

pub one_delta : (sheet : Sheet) (bytes : List ℕ) (wide other : Bool) (changes others : List Change) → IsCsvDelta sheet bytes wide changes
    → IsCsvDelta sheet bytes other others → (wide ≡ other) × (changes ≡ others)
one_delta sheet bytes wide other changes others is also =
    let lines : HasLines delta_names sheet bytes wide (flat_map (change_line wide) changes) = change_lines sheet bytes wide changes is in
    let more : HasLines delta_names sheet bytes other (flat_map (change_line other) others) = change_lines sheet bytes other others also in
    let same : other ≡ wide = one_width delta_names delta_names_are sheet other wide (flat_map (change_line other) others) (flat_map (change_line wide) changes)
    also.wide_is is.wide_is (sym more.whole ∙ lines.whole) in
    let F : Bool → Type 0 = λ w. IsCsvDelta sheet bytes w others in
    let here : IsCsvDelta sheet bytes wide others = subst F same also in (
      sym same,
      one_list (change_line wide) (IsChangeIn sheet wide) changed_key (change-one_way sheet wide) (change-some sheet wide) changes others
          (both-all (IsChangeOf sheet) (λ change. IsTrue (fits wide (changed_row change))) changes is.changes_are.each is.fit)
          (both-all (IsChangeOf sheet) (λ change. IsTrue (fits wide (changed_row change))) others here.changes_are.each here.fit)
          (behind-head (csv_line (delta_names wide sheet)) bytes (flat_map (change_line wide) changes) (flat_map (change_line wide) others) lines.whole
          (here.text ∙ delta-is sheet wide others)),
    )
