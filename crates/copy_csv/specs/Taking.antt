-- What calls that read CSV consume of the bytes that are left to read, and what they return for them.
use Rattle.std.specs.Prelude.{◌≡◌, ◌≢◌, ℕ, List, [], ◌∷◌, ◌++◌, ◌==◌, Bool, true, false, Option, None, Some, length, map, flat_map, ◌-◌}
use Rattle.std.specs.Borrow.{Bor}
use Rattle.std.specs.List.{All, slice_get}
use Rattle.std.specs.Option.{option_map}
use Rattle.std.specs.Ordering.{is_lt}
use Rattle.std.specs.Str.{IsUtf8}
use Rattle.lei_code.specs.Texts.{Text}
use Rattle.lei_records.specs.Tables.{KeyTexts, key_cmp}
use Rattle.register_words.specs.declared.sheets.Sheet.{Sheet}
use Rattle.copy_csv.specs.Csv.{csv_line}
use Rattle.copy_csv.specs.Rows.{KeysRise}
use Rattle.copy_csv.specs.Sheets.{has_widths}

-- No byte is a quote.
abbrev pub HasNoQuote : List ℕ → Type 0
HasNoQuote bytes = All (λ byte. (byte == 34) ≡ false) bytes

-- The bytes before the next quote were appended, and they and the quote were consumed. Or there is no quote, and
-- nothing changed.
abbrev pub TakesPart : List ℕ → List ℕ → Bool → List ℕ → List ℕ → Type 0
TakesPart old made true new made' =
    (part : List ℕ) × (old ≡ part ++ 34 ∷ new) × HasNoQuote part × (made' ≡ made ++ part)
TakesPart old made false new made' = HasNoQuote old × (new ≡ old) × (made' ≡ made)

-- What was made and what is left, if something was found.
abbrev pub taken_text : Bool → List ℕ → List ℕ → Option (List ℕ × List ℕ)
taken_text true made rest = Some (made, rest)
taken_text false made rest = None

-- What was read, and what is left.
abbrev pub read_with_rest : {X : Type 0} → Option X → List ℕ → Option (X × List ℕ)
read_with_rest read rest = option_map (λ read. (read, rest)) read

-- These bytes came next and were consumed, or other bytes came next and none were consumed.
abbrev pub SkipsAll : List ℕ → List ℕ → Bool → List ℕ → Type 0
SkipsAll bytes old true new = old ≡ bytes ++ new
SkipsAll bytes old false new = (new ≡ old) × ((rest : List ℕ) → old ≢ bytes ++ rest)

-- The printed form of a good value came next and was consumed, or no such form came next.
abbrev pub ReadsNext : {X : Type 0} → (X → List ℕ) → (X → Type 0) → List ℕ → Option X → List ℕ → Type 0
ReadsNext print Good old (Some x) new = (old ≡ print x ++ new) × Good x
ReadsNext {X} print Good old None new = (x : X) (rest : List ℕ) → Good x → old ≢ print x ++ rest

-- The value comes after the other one by its key, or there is no other.
abbrev pub comes_after : {X : Type 0} → (X → KeyTexts) → Option X → X → Bool
comes_after key None x = true
comes_after key (Some other) x = is_lt (key_cmp (key other) (key x))

-- The value comes after the last one of a list by its key, or the list is empty.
abbrev pub is_after_all : {X : Type 0} → (X → KeyTexts) → List X → X → Bool
is_after_all key xs x = comes_after key (slice_get xs (length xs - 1)) x

-- The bytes are the printed forms of good values whose keys rise.
pub record AreReadFrom {X : Type 0} (print : X → List ℕ) (Good : X → Type 0) (key : X → KeyTexts) (bytes : List ℕ)
    (xs : List X) : Type 0 where
  pub printed : bytes ≡ flat_map print xs
  pub good : All Good xs
  pub rising : KeysRise (map key xs)

-- `"PUT",`, with which the line of a row that is put starts.
abbrev pub put_bytes : List ℕ
put_bytes = 34 ∷ 80 ∷ 85 ∷ 84 ∷ 34 ∷ 44 ∷ []

-- `"DROP",`, with which the line of a key that is dropped starts.
abbrev pub drop_bytes : List ℕ
drop_bytes = 34 ∷ 68 ∷ 82 ∷ 79 ∷ 80 ∷ 34 ∷ 44 ∷ []

-- The bytes are the first line of a file of this width, followed by these lines, which are UTF-8.
pub record HasLines (names : Bool → Sheet → List Text) (sheet : Sheet) (bytes : List ℕ) (wide : Bool)
    (lines : List ℕ) : Type 0 where
  pub whole : bytes ≡ csv_line (names wide sheet) ++ lines
  pub wide_is : wide ≡ true → has_widths sheet ≡ true
  pub utf8 : IsUtf8 lines

-- What was found after the first line of a file: its width and its lines. `None` says that for no width the bytes are a
-- first line followed by UTF-8.
abbrev pub FindsLines : (Bool → Sheet → List Text) → Sheet → List ℕ → Option (Bool × List ℕ) → Type 0
FindsLines names sheet bytes (Some found) = HasLines names sheet bytes found.0 found.1
FindsLines names sheet bytes None = (wide : Bool) (lines : List ℕ) → HasLines names sheet bytes wide lines → ⊥

-- What was found after a prefix of the bytes, if it is UTF-8, and whether the prefix is `second`. If the bytes start
-- with both `first` and `second`, `first` counts.
abbrev pub FindsBehind : List ℕ → List ℕ → List ℕ → Option (Bool × List ℕ) → Type 0
FindsBehind first second bytes (Some (true, rest)) =
    (bytes ≡ second ++ rest) × IsUtf8 rest × ((others : List ℕ) → bytes ≢ first ++ others)
FindsBehind first second bytes (Some (false, rest)) = (bytes ≡ first ++ rest) × IsUtf8 rest
FindsBehind first second bytes None =
    ((rest : List ℕ) → IsUtf8 rest → bytes ≢ first ++ rest)
    × ((rest : List ℕ) → IsUtf8 rest → ((others : List ℕ) → bytes ≢ first ++ others) → bytes ≢ second ++ rest)

-- Borrowed lines, with their width.
abbrev pub read_lines : Option (Bool × Bor (List ℕ)) → Option (Bool × List ℕ)
read_lines found = option_map (λ lines. (lines.0, lines.1.now)) found
