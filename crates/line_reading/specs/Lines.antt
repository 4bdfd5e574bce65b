-- The lines of bytes. A line ends at LF, the byte 10, or at the end of the bytes. One CR, the byte 13, before the LF
-- belongs to the end. std's `lines` lists the lines. After the last LF there is no line if there is no byte.
use Rattle.std.specs.Prelude.{◌≡◌, ◌≢◌, ℕ, ◌⊎◌, ◌==◌, Bool, List, [], ◌∷◌, ◌++◌, if◌then◌else◌}
use Rattle.std.specs.List.{All, list_any}
use Rattle.std.specs.Str.Lines.{strip_carriage_return}

-- A line without its end, byte by byte.
abbrev pub Line : Type 0
Line = List ℕ

-- LF, the end of a line.
abbrev pub line_feed : List ℕ
line_feed = 10 ∷ []

-- CR, which may precede an LF.
abbrev pub carriage_return : List ℕ
carriage_return = 13 ∷ []

-- No byte ends a line.
abbrev pub HasNoEnd : List ℕ → Type 0
HasNoEnd bytes = All (λ byte. byte ≢ 10) bytes

-- These are whole lines with their ends: there is no byte, or the last byte is LF.
abbrev pub IsClosed : List ℕ → Type 0
IsClosed bytes = (bytes ≡ []) ⊎ ((before : List ℕ) × (bytes ≡ before ++ 10 ∷ []))

-- The line that has these bytes before its LF.
abbrev pub line_of : List ℕ → Line
line_of part = strip_carriage_return part

-- The bytes are a part before the first LF, the LF, and what follows it.
pub record IsCutAtEnd (bytes part after : List ℕ) : Type 0 where
  pub parts : bytes ≡ (part ++ 10 ∷ []) ++ after
  pub none : HasNoEnd part

-- A byte ends a line.
abbrev pub has_end : List ℕ → Bool
has_end bytes = list_any (λ byte. byte == 10) bytes

-- The bytes up to and including the last LF.
unfoldable pub whole_part : List ℕ → List ℕ
whole_part [] = []
whole_part (byte ∷ bytes) = if has_end (byte ∷ bytes) then byte ∷ whole_part bytes else []

-- The bytes after the last LF.
unfoldable pub last_part : List ℕ → List ℕ
last_part [] = []
last_part (byte ∷ bytes) = if has_end (byte ∷ bytes) then last_part bytes else byte ∷ bytes
