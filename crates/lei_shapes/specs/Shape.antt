-- The shapes of texts. A text is seen as its bytes, and through `chars` as its characters.
use Rattle.std.specs.Prelude.{ℕ, Bool, true, not, ◌&&◌, ◌||◌, ◌==◌, List, [], ◌∷◌, length, take, drop, chars, codes, if◌then◌else◌, is_some, nat_eq, Option, Some, None}
use Rattle.std.specs.Borrow.{Bor}
use Rattle.std.specs.Char.{is_ascii_digit, is_ascii_uppercase, is_ascii_alphanumeric, is_control}
use Rattle.std.specs.Int.{is_in_range}
use Rattle.std.specs.List.{list_all, list_any, starts_with}
use Rattle.std.specs.Str.{bytes_eq}
use Rattle.lei_code.specs.Texts.{Lei, Text}
use Rattle.lei_shapes.specs.declared.shapes.Shape.{Shape}
use Rattle.lei_shapes.specs.Lists.{record_status_of, entity_status_of, category_of, validation_of, relation_type_of, relation_status_of, relation_registration_of, exception_category_of, reason_of, event_type_of, event_status_of}
use Rattle.lei_shapes.specs.Moment.{read_moment}

-- The byte is one of `0` to `9` and `A` to `Z`.
abbrev pub is_capital_or_digit : ℕ → Bool
is_capital_or_digit b = is_ascii_uppercase b || is_ascii_digit b

-- The byte is an ASCII letter, a digit or `-`.
abbrev pub is_lang_byte : ℕ → Bool
is_lang_byte b = is_ascii_alphanumeric b || (b == 45)

-- An LEI as ISO 17442-1 writes it, whatever its check digits: 18 capital letters and digits, and then two digits.
abbrev pub is_code : Lei → Bool
is_code text = (length text == 20) && list_all is_capital_or_digit (take 18 text)
    && list_all is_ascii_digit (drop 18 text)

-- The byte is put before the first of these texts.
abbrev pub with_byte : ℕ → List Text → List Text
with_byte byte [] = []
with_byte byte (text ∷ texts) = (byte ∷ text) ∷ texts

-- The texts between the spaces of a text, in order: one more than the number of spaces.
abbrev pub between_spaces : Text → List Text
between_spaces [] = [] ∷ []
between_spaces (byte ∷ text) = if byte == 32 then [] ∷ between_spaces text else with_byte byte (between_spaces text)

-- The same for the text that follows a space, if there is one.
abbrev pub texts_at_hand : Option (Bor Text) → List Text
texts_at_hand None = []
texts_at_hand (Some text) = between_spaces text.now

-- No text is in the list twice.
abbrev pub are_different : List Text → Bool
are_different [] = true
are_different (text ∷ texts) = not (list_any (bytes_eq text) texts) && are_different texts

-- One to five LEIs, whatever their check digits, all different, separated by single spaces.
abbrev pub is_codes : Text → Bool
is_codes text = is_in_range 1 5 (length (between_spaces text)) && list_all is_code (between_spaces text)
    && are_different (between_spaces text)

-- A free text: 1 to 500 characters, none of them below U+0020 or from U+007F to U+009F. These are the control
-- characters.
abbrev pub is_free : Text → Bool
is_free text = is_in_range 1 500 (length (chars text)) && not (list_any is_control (chars text))

-- A language tag: 1 to 35 ASCII letters, digits and `-`.
abbrev pub is_lang : Text → Bool
is_lang text = is_in_range 1 35 (length text) && list_all is_lang_byte text

-- A country code as ISO 3166-1 writes it: two capital letters.
abbrev pub is_country : Text → Bool
is_country text = (length text == 2) && list_all is_ascii_uppercase text

-- The code of a registration authority: `RA` and six digits.
abbrev pub is_authority : Text → Bool
is_authority text = (length text == 8) && starts_with nat_eq text (codes "RA")
    && list_all is_ascii_digit (drop 2 text)

-- What may follow the country of a jurisdiction: nothing, or `-` and 1 to 3 capital letters or digits.
abbrev pub is_subdivision : Text → Bool
is_subdivision [] = true
is_subdivision (b ∷ code) =
    (b == 45) && is_in_range 1 3 (length code) && list_all is_capital_or_digit code

-- A jurisdiction: a country or a part of it, as ISO 3166-2 writes it.
abbrev pub is_jurisdiction : Text → Bool
is_jurisdiction text = is_country (take 2 text) && is_subdivision (drop 2 text)

-- The code of a legal form as ISO 20275 writes it: four capital letters or digits.
abbrev pub is_form : Text → Bool
is_form text = (length text == 4) && list_all is_capital_or_digit text

-- The text has the shape: by the shape's own test, or if it reads as a moment or as a value of the list.
abbrev pub fits_shape : Shape → Text → Bool
fits_shape Shape.Code text = is_code text
fits_shape Shape.Codes text = is_codes text
fits_shape Shape.Free text = is_free text
fits_shape Shape.Lang text = is_lang text
fits_shape Shape.Country text = is_country text
fits_shape Shape.Authority text = is_authority text
fits_shape Shape.Jurisdiction text = is_jurisdiction text
fits_shape Shape.Form text = is_form text
fits_shape Shape.Moment text = is_some (read_moment text)
fits_shape Shape.RecordStatus text = is_some (record_status_of text)
fits_shape Shape.EntityStatus text = is_some (entity_status_of text)
fits_shape Shape.Category text = is_some (category_of text)
fits_shape Shape.Validation text = is_some (validation_of text)
fits_shape Shape.RelationType text = is_some (relation_type_of text)
fits_shape Shape.RelationStatus text = is_some (relation_status_of text)
fits_shape Shape.RelationRegistration text = is_some (relation_registration_of text)
fits_shape Shape.ExceptionCategory text = is_some (exception_category_of text)
fits_shape Shape.Reason text = is_some (reason_of text)
fits_shape Shape.EventType text = is_some (event_type_of text)
fits_shape Shape.EventStatus text = is_some (event_status_of text)
