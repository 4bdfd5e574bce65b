-- The line that the commands over a single text write.
use Rattle.std.specs.Prelude.{◌≡◌, ℕ, List, [], ◌∷◌, ◌++◌, ◌==◌, ◌⊎◌, length, codes, decimal, if◌then◌else◌, Option, None, Some}
use Rattle.lei_code.specs.Digits.{digits}
use Rattle.lei_code.specs.Fault.{fault_of, character_fault}
use Rattle.lei_code.specs.Texts.{Text}
use Rattle.lei_code.specs.declared.fault.LeiFault.{LeiFault}
use Rattle.lei_code.specs.declared.fault.LeiFault.TheVariants.{Length, Character, CheckDigits}
use Rattle.lei_outside.specs.Told.{Grows, WritesFront}

-- The words of a fault, with the position of a character that isn't allowed there, counted from 1.
abbrev pub lei_fault_words : LeiFault → Text
lei_fault_words Length = codes "LENGTH"
lei_fault_words (Character position) = codes "CHARACTER " ++ decimal position
lei_fault_words CheckDigits = codes "CHECK_DIGITS"

-- The line with a text, or with the fault if there is one.
abbrev pub line_or : Text → Option LeiFault → Text
line_or text None = text ++ 10 ∷ []
line_or text (Some fault) = (codes "refused " ++ lei_fault_words fault) ++ 10 ∷ []

-- Whether the text is an LEI, or why it isn't.
abbrev pub check_line : Text → Text
check_line text = line_or (codes "valid") (fault_of text)

-- Why no check digits are computed for a text. Either it doesn't have 18 bytes, or some of them aren't allowed in an
-- LEI, and the first of these is reported.
abbrev pub digits_fault : Text → Option LeiFault
digits_fault text = if length text == 18 then character_fault text else Some Length

-- The two check digits that make an LEI of the text (ISO/IEC 7064), or why there are none.
abbrev pub digits_line : Text → Text
digits_line text = line_or (digits text) (digits_fault text)

-- The status if a line is written: 0, or 2 if it reports a fault.
abbrev pub code_status : Option LeiFault → ℕ
code_status None = 0
code_status (Some fault) = 2

-- How a command that writes this line ends, by its status. The whole line was written. Or a write failed, or memory ran
-- out, and a front of the line was written but not all of it.
abbrev pub WritesLine : Option LeiFault → Text → Option (List ℕ) → Option (List ℕ) → ℕ → Type 0
WritesLine fault line before after status =
    ((status ≡ code_status fault) × Grows before after line)
    ⊎ ((status ≡ 4) × WritesFront before after line)
    ⊎ ((status ≡ 6) × WritesFront before after line)
