-- Which texts are Legal Entity Identifiers (ISO 17442-1).
use Rattle.std.specs.Prelude.{◌≡◌, ℕ, ◌-◌, ◌%◌, ◌≤◌, Bool, ◌&&◌, ◌||◌, length, slice_index, nat_le, IsTrue}
use Rattle.std.specs.Char.{is_ascii_digit, is_ascii_uppercase}
use Rattle.lei_code.specs.Number.{number}
use Rattle.lei_code.specs.Texts.{Text}

-- The character at a position; positions are counted from 1.
abbrev pub character : Text → ℕ → ℕ
character text position = slice_index text (position - 1)

-- A character is allowed at a position: `0` to `9` at each, and `A` to `Z` at the first 18.
abbrev pub may_be_at : ℕ → ℕ → Bool
may_be_at position c = is_ascii_digit c || (nat_le position 18 && is_ascii_uppercase c)

-- Each position of the text has a character that is allowed there.
pub record IsWellFormed (text : Text) : Type 0 where
  pub each : (position : ℕ) → 1 ≤ position → position ≤ length text
      → IsTrue (may_be_at position (character text position))

-- The text is a Legal Entity Identifier (ISO 17442-1): 20 characters, each allowed at its position, whose number leaves
-- the remainder 1 when divided by 97.
pub record IsValid (text : Text) : Type 0 where
  pub len : length text ≡ 20
  pub characters : IsWellFormed text
  pub check : number text % 97 ≡ 1
