-- What the headers of a request say of its body and of its connection. Names are compared without regard to ASCII case.
use Rattle.std.specs.Prelude.{ℕ, ◌==◌, Bool, ◌&&◌, List, [], ◌∷◌, length, map, filter, nat_le, codes, if◌then◌else◌, Option, None, Some}
use Rattle.std.specs.Char.{to_ascii_lowercase}
use Rattle.std.specs.List.{list_any, slice_split}
use Rattle.std.specs.Str.{all_ascii_digits, bytes_eq}
use Rattle.std.specs.Str.Parse.{digits_value}
use Rattle.httparse.specs.Grammar.{trim_ows}
use Rattle.http_heads.specs.declared.headers.ContentLength.{ContentLength}
use Rattle.http_heads.specs.declared.headers.HeaderFacts.{HeaderFacts}

-- A header: its name, and its value without the whitespace around it.
abbrev pub Header : Type 0
Header = List ℕ × List ℕ

-- Two texts are equal, apart from ASCII case.
abbrev pub are_alike : List ℕ → List ℕ → Bool
are_alike first second = bytes_eq (map to_ascii_lowercase first) (map to_ascii_lowercase second)

-- The header has this name.
abbrev pub header_has_name : List ℕ → Header → Bool
header_has_name name header = are_alike header.0 name

-- The values of the headers with this name, in order.
abbrev pub values_of : List ℕ → List Header → List (List ℕ)
values_of name headers = map (λ header. header.1) (filter (header_has_name name) headers)

-- ---- Transfer-Encoding

-- A header says how the body is coded.
abbrev pub is_coded : List Header → Bool
is_coded headers = list_any (header_has_name (codes "transfer-encoding")) headers

-- ---- Content-Length

-- The number of bytes that a value states: 1 to 10 decimal digits.
unfoldable pub length_in : List ℕ → Option ℕ
length_in value =
    if nat_le 1 (length value) && nat_le (length value) 10 && all_ascii_digits value then Some
    (digits_value 10 value) else None

-- The length that one value and all others state together: the number that all state. If one of them states none, or
-- two state different numbers, it is wrong.
abbrev pub joint_length : Option ℕ → ContentLength → ContentLength
joint_length None others = ContentLength.Wrong
joint_length (Some number) ContentLength.Absent = ContentLength.Bytes number
joint_length (Some number) (ContentLength.Bytes other) =
    if number == other then ContentLength.Bytes number else ContentLength.Wrong
joint_length (Some number) ContentLength.Wrong = ContentLength.Wrong

-- The length that the values state together. If there are none, it is absent.
abbrev pub length_of_values : List (List ℕ) → ContentLength
length_of_values [] = ContentLength.Absent
length_of_values (value ∷ values) = joint_length (length_in value) (length_of_values values)

-- The length of the body that the headers state.
abbrev pub content_length : List Header → ContentLength
content_length headers = length_of_values (values_of (codes "content-length") headers)

-- ---- Connection

-- One of the parts of a value is `close`. The value is cut at commas, and spaces and tabs at both ends of a part don't
-- count.
abbrev pub has_close : List ℕ → Bool
has_close value = list_any (λ part. are_alike (trim_ows part) (codes "close")) (slice_split (λ byte. byte == 44) value)

-- It is a Connection header that asks to close the connection after the answer.
abbrev pub is_close : Header → Bool
is_close header = header_has_name (codes "connection") header && has_close header.1

-- One of the headers asks to close.
abbrev pub asks_to_close : List Header → Bool
asks_to_close headers = list_any is_close headers

-- ---- all headers

-- What the headers say.
abbrev pub header_facts : List Header → HeaderFacts
header_facts headers = record {
  coded = is_coded headers;
  body = content_length headers;
  closes = asks_to_close headers;
}
