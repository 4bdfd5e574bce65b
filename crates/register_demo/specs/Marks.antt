-- What is read from texts: how often a mark occurs in one, and the digits after a mark.
use Rattle.std.specs.Prelude.{ℕ, ◌+◌, ◌-◌, [], length, drop, take_while, count_by, slice_get, Option, None, Some, ◌==◌}
use Rattle.std.specs.Char.{is_ascii_digit}
use Rattle.memchr.specs.Find.{matches}
use Rattle.lei_code.specs.Texts.{Text}

-- how often a mark occurs in a text, at places that don't overlap
abbrev pub times : Text → Text → ℕ
times mark text = length (matches text mark 0)

-- the text after a mark at this place; empty if there is no place
abbrev pub text_after_place : Text → Text → Option ℕ → Text
text_after_place mark text None = []
text_after_place mark text (Some at) = drop (at + length mark) text

-- the text after the first place of a mark
abbrev pub text_after : Text → Text → Text
text_after mark text = text_after_place mark text (slice_get (matches text mark 0) 0)

-- the decimal digits that follow this place
abbrev pub digits_after : Text → Text → Text
digits_after mark text = take_while is_ascii_digit (text_after mark text)

-- how many rows a CSV file has: one for each line after the head
abbrev pub row_count_in : Text → ℕ
row_count_in text = count_by (λ c. c == 10) text - 1
