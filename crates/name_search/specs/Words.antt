-- The words of a text.
use Rattle.std.specs.Prelude.{ℕ, List, [], ◌∷◌, ◌++◌, Bool, true, false, ◌&&◌, ◌||◌, not, filter, chars, encode_utf8, nat_lt, if◌then◌else◌}
use Rattle.std.specs.Char.{is_ascii_alphanumeric, is_whitespace}
use Rattle.caseless.specs.Caseless.{default_case_fold}
use Rattle.unicode_normalization.specs.Forms.{nfkc}
use Rattle.lei_code.specs.Texts.{Text}

-- The characters of a text in Normalization Form KC (Unicode Standard Annex #15), each of them folded by the default
-- case folding (The Unicode Standard).
unfoldable pub folded_chars : Text → List ℕ
folded_chars text = default_case_fold (nfkc (chars text))

-- A text is cut at each white space character (the property White_Space of the Unicode Character Database). It is also
-- cut at each ASCII character that is neither a letter nor a digit.
abbrev pub is_separator : ℕ → Bool
is_separator c = is_whitespace c || (nat_lt c 128 && not (is_ascii_alphanumeric c))

-- These texts, with a text put in front of the first one.
abbrev pub with_first_bytes : Text → List Text → List Text
with_first_bytes text [] = text ∷ []
with_first_bytes text (first ∷ others) = (text ++ first) ∷ others

-- The pieces before, between and after the separators among some characters, each as its UTF-8 bytes. Between two
-- adjacent separators there is an empty piece.
abbrev pub word_pieces : List ℕ → List Text
word_pieces [] = [] ∷ []
word_pieces (c ∷ cs) = if is_separator c then [] ∷ word_pieces cs else with_first_bytes (encode_utf8 c) (word_pieces cs)

-- The piece isn't empty.
abbrev pub is_word : Text → Bool
is_word [] = false
is_word (byte ∷ bytes) = true

-- The words of a text: the pieces of its folded characters, without the empty ones. A word that occurs twice is in the
-- list twice.
unfoldable pub words : Text → List Text
words text = filter is_word (word_pieces (folded_chars text))
