-- What is wrong with a text that isn't a code: as a relation, and as the first fault, which computes.
use Rattle.std.specs.Prelude.{◌≡◌, ◌≢◌, ℕ, ◌%◌, ◌<◌, ◌≤◌, not, length, IsTrue, Option, None, Some, find, if◌then◌else◌, ◌==◌, ◌++◌, codes}
use Rattle.std.specs.Fmt.{decimal}
use Rattle.std.specs.List.{range_with_len}
use Rattle.std.specs.Option.{option_map, option_or}
use Rattle.lei_code.specs.declared.fault.LeiFault.{LeiFault}
use Rattle.lei_code.specs.declared.fault.LeiFault.TheVariants.{Length, Character, CheckDigits}
use Rattle.lei_code.specs.Number.{number}
use Rattle.lei_code.specs.Code.{character, may_be_at, IsWellFormed}
use Rattle.lei_code.specs.Texts.{Text}

-- The first position, counted from 1, with a character that isn't allowed there.
pub record IsFirstWrong (text : Text) (position : ℕ) : Type 0 where
  pub counted : 1 ≤ position
  pub within : position ≤ length text
  pub wrong : ¬ (IsTrue (may_be_at position (character text position)))
  pub before : (q : ℕ) → 1 ≤ q → q < position → IsTrue (may_be_at q (character text q))

-- The fault is that of the first wrong character.
abbrev pub IsCharacterFault : Text → LeiFault → Type 0
IsCharacterFault text Length = ⊥
IsCharacterFault text (Character position) = IsFirstWrong text position
IsCharacterFault text CheckDigits = ⊥

-- The fault says why the text isn't an LEI: its length first, then its first wrong character, then its check digits.
abbrev pub IsFault : Text → LeiFault → Type 0
IsFault text Length = length text ≢ 20
IsFault text (Character position) = (length text ≡ 20) × IsFirstWrong text position
IsFault text CheckDigits = (length text ≡ 20) × IsWellFormed text × (number text % 97 ≢ 1)

-- The first position, counted from 1, whose character isn't allowed there.
unfoldable pub first_wrong : Text → Option ℕ
first_wrong text = find (λ position. not (may_be_at position (character text position)))
    (range_with_len 1 (length text))

-- The fault of the first wrong character, if there is one.
abbrev pub character_fault : Text → Option LeiFault
character_fault text = option_map Character (first_wrong text)

-- The fault of wrong check digits, if they are wrong.
abbrev pub check_fault : Text → Option LeiFault
check_fault text = if number text % 97 == 1 then None else Some CheckDigits

-- The first fault of a text, and `None` for an LEI.
unfoldable pub fault_of : Text → Option LeiFault
fault_of text = if length text == 20 then option_or (character_fault text) (check_fault text) else Some Length

-- The words that report a fault.
abbrev pub fault_text : LeiFault → Text
fault_text Length = codes "a code has 20 characters"
fault_text (Character position) = codes "the character at place " ++ decimal position ++ codes " may not stand there"
fault_text CheckDigits = codes "the check digits are wrong"
