-- Places of lines, and lines whose texts are replaced in place.
use Rattle.std.specs.Prelude.{◌≡◌, ℕ, zero, suc, ◌&&◌, ◌<◌, List, [], ◌∷◌, length, Bool, is_some, Option, Some, None}
use Rattle.std.specs.FinMap.Entries.{find}
use Rattle.copy_csv.specs.declared.rows.RowTexts.{RowTexts}
use Rattle.lei_records.specs.Tables.{KeyTexts, key_cmp}
use Rattle.golden_shelf.specs.Lines.{KeyedLine, LineChange}

-- The key of the line at a place.
abbrev pub key_of : List KeyedLine → ℕ → Option KeyTexts
key_of [] n = None
key_of (line ∷ lines) zero = Some line.0
key_of (line ∷ lines) (suc n) = key_of lines n

-- The texts of the line at a place.
abbrev pub line_texts_at : List KeyedLine → ℕ → Option RowTexts
line_texts_at [] n = None
line_texts_at (line ∷ lines) zero = Some line.1
line_texts_at (line ∷ lines) (suc n) = line_texts_at lines n

-- Lines with other texts at a place.
abbrev pub with_texts_at : List KeyedLine → ℕ → RowTexts → List KeyedLine
with_texts_at [] n texts = []
with_texts_at (line ∷ lines) zero texts = (line.0, texts) ∷ lines
with_texts_at (line ∷ lines) (suc n) texts = line ∷ with_texts_at lines n texts

-- The key is at this place, or, without a place, has no line.
abbrev pub IsLinePlace : KeyTexts → List KeyedLine → Option ℕ → Type 0
IsLinePlace k lines (Some n) = (n < length lines) × (key_of lines n ≡ Some k)
IsLinePlace k lines None = find key_cmp k lines ≡ None

-- The change has texts for a key that has a line.
abbrev pub is_there : List KeyedLine → LineChange → Bool
is_there lines change = is_some change.1 && is_some (find key_cmp change.0 lines)
